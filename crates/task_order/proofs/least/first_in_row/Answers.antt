use Rattle.std.proofs.Common.{◌≡◌, ◌+◌, ◌<◌, ◌∙◌, inl, inr, true, sym, subst, arith}
use Rattle.std.proofs.lemmas.Bool.{true≢false}
use Rattle.semantics.specs.Shown.{IsKept}
use Rattle.order_laws.specs.Turns.{do_interfere}
use Rattle.task_order.specs.Rows.{IsKeptWith}
use Rattle.order_laws.proofs.lemmas.TaskUses.{interfering_within}
use Rattle.task_order.proofs.Looked.{kept_more, unset_kept}
use Rattle.task_order.proofs.least.first_in_row.Goals.{else-a-b-via-then-a-b+then-has+else-not-is_kept, else-a-b-via-then-a-b+else-has, else-a-b-via-else-a-b}
use Rattle.task_order.proofs.least.first_in_row.Goals as goal

pub loop-i-preserved : goal.loop-i-preserved
loop-i-preserved g c =
    let t = c.args.schedule.now.log.now in
    let b = c.args.base + c.loop-i.i in
    let next : b + 1 ≡ c.args.base + (c.loop-i.i + 1) = omega arith in
    let here : c.args.a < b → do_interfere t c.args.a b ≡ true → IsKept t (c.args.a, b) =
    elim c.else-a-b.branch [
      | else-a-b-via-then-a-b+then-has+else-not-is_kept w ↦ λ lt meet. w.is_kept.ensures.0 w.if-not-is_kept.false
      | else-a-b-via-then-a-b+else-has w ↦ λ lt meet. elim (c.requires.row.whole c.loop-i.i c.loop-i-test.true lt meet) [
        | inl bit ↦ absurd (true≢false (sym bit ∙ (sym w.has.ensures ∙ w.if-has.false)))
        | inr kept ↦ kept
      ]
      | else-a-b-via-else-a-b w ↦ λ lt meet. absurd (omega (arith, lt, w.if-a-b.false))
    ] in
    subst (λ n. IsKeptWith t c.args.base n c.args.a) next (kept_more t c.args.base b c.args.a c.loop-i.invariant here)

pub returns-then-is_empty : goal.returns-then-is_empty
returns-then-is_empty g c = unset_kept c.args.schedule.now.log.now c.args.base c.args.a c.args.row.now c.requires.row
    (c.is_empty.ensures.0 c.if-is_empty.true)

pub is_kept-requires-clause-a : goal.is_kept-requires-clause-a
is_kept-requires-clause-a g c =
    let meet = c.requires.row.sound c.loop-i.i c.loop-i-test.true (sym c.has.ensures ∙ c.if-has.true) in
    let within = interfering_within c.args.schedule.now.log.now c.args.a (c.args.base + c.loop-i.i) meet in
    omega (arith, within, c.if-a-b.true)

pub is_kept-requires-clause-b : goal.is_kept-requires-clause-b
is_kept-requires-clause-b g c =
    let meet = c.requires.row.sound c.loop-i.i c.loop-i-test.true (sym c.has.ensures ∙ c.if-has.true) in
    interfering_within c.args.schedule.now.log.now c.args.a (c.args.base + c.loop-i.i) meet
