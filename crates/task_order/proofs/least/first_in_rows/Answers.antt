use Rattle.std.proofs.Common.{◌+◌, inl, inr, sym, subst, arith}
use Rattle.std.proofs.lemmas.Bool.{cases_eq}
use Rattle.task_order.specs.Rows.{IsKeptWith}
use Rattle.task_order.proofs.least.first_in_rows.Goals as goal

pub loop-a-preserved : goal.loop-a-preserved
loop-a-preserved g c = λ a lt. elim (cases_eq a c.loop-a.a) [
  | inl is ↦ subst (IsKeptWith c.args.schedule.now.log.now c.args.base (c.args.base + 1024)) (sym is) c.in_default.ensures
  | inr other ↦ c.loop-a.invariant a (omega (arith, lt, other))
]
