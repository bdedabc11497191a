use Rattle.std.proofs.Common.{◌-◌, ◌+◌}
use Rattle.task_order.specs.Rows.{IsFoundBefore}
use Rattle.task_order.proofs.least.first_unkept.Given as goal

abbrev pub invariant-loop-base : goal.invariant-loop-base
invariant-loop-base g l = IsFoundBefore l.schedule.log.now l.base l.found

abbrev pub decreases-loop-base : goal.decreases-loop-base
decreases-loop-base g l = l.items + 1024 - l.base
