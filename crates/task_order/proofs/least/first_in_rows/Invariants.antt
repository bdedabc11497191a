use Rattle.std.proofs.Common.{ℕ, ◌+◌, ◌<◌}
use Rattle.task_order.specs.Rows.{IsKeptWith}
use Rattle.task_order.proofs.least.first_in_rows.Given as goal

abbrev pub invariant-loop-a : goal.invariant-loop-a
invariant-loop-a g l = (a : ℕ) → a < l.a → IsKeptWith l.schedule.log.now l.base (l.base + 1024) a
