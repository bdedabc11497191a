use Rattle.std.proofs.Common.{◌≡◌, ◌&&◌, sym, arith, Bool, true, false, ℕ}
use Rattle.std.specs.Prelude.{nat_le}
use Rattle.std.proofs.lemmas.Bool.{and_from, and_right}
use Rattle.std.proofs.lemmas.Bool.Decides.{nat_tests}
use Rattle.bit_words.specs.Bits.{has_bit}
use Rattle.pair_rows.proofs.Counts.{count_small, count_none, count_next}
use Rattle.pair_rows.proofs.counting.count_from.Goals.{then-has, else-has}
use Rattle.pair_rows.proofs.counting.count_from.Goals as goal

pub loop-j-init : goal.loop-j-init
loop-j-init c = sym (count_none (λ i. nat_le c.args.from i && has_bit c.args.bits.now i) c.args.from (λ k lt. grind (arith, nat_tests)))

pub overflow_add-count : goal.overflow_add-count
overflow_add-count c =
    let s = count_small (λ i. nat_le c.args.from i && has_bit c.args.bits.now i) c.loop-j.j in
    let i = c.loop-j.invariant in
    omega (arith, s, i)

pub loop-j-preserved : goal.loop-j-preserved
loop-j-preserved c =
    let t : ℕ → Bool = λ i. nat_le c.args.from i && has_bit c.args.bits.now i in
    let i = c.loop-j.invariant in
    let low = c.loop-j.auto.j in
    let le : nat_le c.args.from c.loop-j.j ≡ true = grind (arith, nat_tests, low) in
    elim c.if-has.branch [
      | then-has w ↦ let n = count_next t c.loop-j.j true (and_from (nat_le c.args.from c.loop-j.j)
          (has_bit c.args.bits.now c.loop-j.j) le (sym w.if-has.ensures)) in let is = w.count-is in omega (arith, n, i, is)
      | else-has w ↦ let n = count_next t c.loop-j.j false (and_right (nat_le c.args.from c.loop-j.j)
          (has_bit c.args.bits.now c.loop-j.j) (sym w.if-has.ensures)) in let is = w.count-is in omega (arith, n, i, is)
    ]
