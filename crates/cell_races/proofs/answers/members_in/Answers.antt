use Rattle.std.proofs.Common.{◌≡◌, ◌∙◌, arith, get_or, inl, inr, refl, ap}
use Rattle.std.proofs.lemmas.Bool.{cases_lt, eq-eqb}
use Rattle.std.proofs.lemmas.List.{get_or_default}
use Rattle.std.proofs.Math.Bool.{or-true}
use Rattle.bit_words.specs.Bits.{has_bit}
use Rattle.cell_races.proofs.answers.members_in.Goals as goal

pub loop-stop-preserved : goal.loop-stop-preserved
loop-stop-preserved c = λ j le lt. elim (cases_lt j c.loop-stop.stop) [
  | inl early ↦
      let x = c.loop-stop.invariant j le early in
      (x.0, x.1, c.set.ensures x.0 x.1 ∙ rw x.2 refl, x.3)
  | inr late ↦
      let same : c.loop-stop.stop ≡ j = omega (arith, late, lt) in
      let i = c.in-Some.i in (
        i,
        c.in-Some.ensures.within,
        c.set.ensures i c.in-Some.ensures.within ∙ rw (eq-eqb i i refl) (or-true (has_bit c.loop-stop.bits i)),
        c.in-Some.ensures.node ∙ (c.index.ensures ∙ ap (λ n. get_or c.args.questions.now.members.items n c.index.result.now) same
            ∙ get_or_default c.args.questions.now.members.items j c.index.result.now 0
            (omega (arith, same, c.loop-stop-test.true, c.min.ensures, c.len.ensures))),
      )
]
