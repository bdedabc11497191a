use Rattle.std.proofs.Common.{◌+◌}
use Rattle.task_order.specs.Rows.{IsKeptWith}
use Rattle.task_order.proofs.least.first_in_row.Given as goal

abbrev pub invariant-loop-i : goal.invariant-loop-i
invariant-loop-i g l = IsKeptWith l.schedule.log.now l.base (l.base + l.i) l.a
