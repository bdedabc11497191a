use Rattle.std.proofs.Common.{◌^◌, ◌<◌, Option, ℕ, inl, inr, sym, ◌∙◌, subst}
use Rattle.std.proofs.lemmas.Bool.{cases_lt, false≢true}
use Rattle.std.proofs.lemmas.List.Elements.{All-contains}
use Rattle.licences.specs.Reach.{Reaches, allows_at}
use Rattle.licences.proofs.refusal.refused_from.Goals as goal

pub returns-in_default : goal.returns-in_default
returns-in_default g c = λ q h. c.in_default.ensures q (h.0, c.loop-point.invariant q h)

pub returns-in_default-reached : goal.returns-in_default-reached
returns-in_default-reached g c = λ q h.
    let fits = All-contains (λ x. x < 2 ^ 64) c.args.asked.now.points q c.points_are_bounded.ensures h.0 in
    let reaches = subst (λ (o : Option ℕ). Reaches
    (allows_at c.args.all.now c.args.asked.now c.args.field) c.in-Some.point o) c.in_default-reached.is c.reach-reached.ensures in
    absurd (false≢true (sym h.1 ∙ reaches q (c.in-Some.ensures.1 q (h.0, c.loop-point.invariant q h)) fits))

pub returns-then-end-point : goal.returns-then-end-point
returns-then-end-point g c =
    let reaches = subst (λ (o : Option ℕ). Reaches
    (allows_at c.args.all.now c.args.asked.now c.args.field) c.in-Some.point o) c.in-Some-reached.is c.reach-reached.ensures in
    ((c.in-Some.ensures.0.0, reaches.2 c.if-end-point.true), λ q h. c.in-Some.ensures.1 q (h.0, c.loop-point.invariant q h))

pub loop-point-preserved : goal.loop-point-preserved
loop-point-preserved g c = λ q h.
    let reaches = subst (λ (o : Option ℕ). Reaches
    (allows_at c.args.all.now c.args.asked.now c.args.field) c.in-Some.point o) c.in-Some-reached.is c.reach-reached.ensures in
    elim (cases_lt q c.in-Some-reached.end) [
      | inl low ↦ absurd (false≢true (sym h.1 ∙ reaches.1 q (c.in-Some.ensures.1 q (h.0, c.loop-point.invariant q h)) low))
      | inr high ↦ high
    ]
