use Rattle.std.proofs.Common.{◌≡◌, ◌⊎◌, ◌↔◌, length, true, subst, arith, ◌∙◌}
use Rattle.bit_words.specs.Bits.{has_bit}
use Rattle.cell_bits.specs.Bits.{TouchesSome}
use Rattle.cell_bits.proofs.Blocks.{rect_more}
use Rattle.cell_bits.proofs.cells.set_rects.Goals as goal

pub loop-i-preserved : goal.loop-i-preserved
loop-i-preserved c = record {
  words = c.set_rect.ensures.words ∙ c.loop-i.invariant.words;
  bits = λ all is n. rect_more c.args.grid.now c.args.rects.now c.loop-i.i n (has_bit c.args.words.now n ≡ true)
      (has_bit c.loop-i.words n ≡ true) (has_bit c.set_rect.new.words n ≡ true) c.loop-i-test.true
      (c.loop-i.invariant.bits all is n) (c.set_rect.ensures.bits c.if-not-set_rect.false all is n);
}

pub returns-clause-bits : goal.returns-clause-bits
returns-clause-bits c = λ yes all is n.
    let until = c.loop-i.auto.i-end in
    let behind = c.loop-i-test.false in
    let end : c.loop-i.i ≡ length c.args.rects.now = omega (arith, until, behind) in
    subst (λ i. (has_bit c.loop-i.words n ≡ true)
    ↔ ((has_bit c.args.words.now n ≡ true) ⊎ TouchesSome c.args.grid.now c.args.rects.now i n)) end (c.loop-i.invariant.bits all is n)
