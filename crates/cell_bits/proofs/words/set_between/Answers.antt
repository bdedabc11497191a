use Rattle.std.proofs.Common.{◌≡◌, ◌||◌, ◌&&◌, ◌==◌, nat_lt, ap, refl, ◌∙◌, arith}
use Rattle.std.specs.Prelude.{nat_le}
use Rattle.bit_words.specs.Bits.{has_bit}
use Rattle.cell_bits.proofs.BitWords.{none_yet, one_more}
use Rattle.cell_bits.proofs.words.set_between.Goals as goal

pub loop-j-init : goal.loop-j-init
loop-j-init c = record { words = refl; bits = λ n. none_yet (has_bit c.args.words.now n) c.args.from n }

pub loop-j-preserved : goal.loop-j-preserved
loop-j-preserved c = record {
  words = c.set.ensures.words ∙ c.loop-j.invariant.words;
  bits = λ n.
      c.set.ensures.bits n ∙ ap (λ b. b || (c.loop-j.j == n)) (c.loop-j.invariant.bits n)
      ∙ one_more (has_bit c.args.words.now n) c.args.from c.loop-j.j n (let low = c.loop-j.auto.j in omega (arith, low));
}

pub returns-clause-bits : goal.returns-clause-bits
returns-clause-bits c = λ n.
    let until = c.loop-j.auto.j-end c.requires.order in
    let behind = c.loop-j-test.false in
    let end : c.loop-j.j ≡ c.args.to = omega (arith, until, behind) in
    c.loop-j.invariant.bits n ∙ ap (λ j. has_bit c.args.words.now n || (nat_le c.args.from n && nat_lt n j)) end
