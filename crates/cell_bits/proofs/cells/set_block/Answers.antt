use Rattle.std.proofs.Common.{◌∙◌, arith}
use Rattle.bit_words.specs.Bits.{has_bit}
use Rattle.cell_bits.proofs.Blocks.{column_more}
use Rattle.cell_bits.proofs.cells.set_block.Goals as goal

pub loop-k-preserved : goal.loop-k-preserved
loop-k-preserved c = record {
  words = c.set_between.ensures.words ∙ c.loop-k.invariant.words;
  bits = λ n. column_more c.args.rows c.args.block.left c.loop-k.k c.args.block.low c.args.block.high n (has_bit c.args.words.now n)
      (has_bit c.loop-k.words n) (has_bit c.set_between.new.words n) (let low = c.loop-k.auto.k in omega (arith, low))
      (c.loop-k.invariant.bits n) (c.set_between.ensures.bits n);
}
