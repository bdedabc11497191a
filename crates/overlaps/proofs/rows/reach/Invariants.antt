use Rattle.std.proofs.Common.{◌-◌, length}
use Rattle.overlaps.specs.Rows.{IsReached}
use Rattle.overlaps.proofs.rows.reach.Given as goal

abbrev pub invariant-loop-reached : goal.invariant-loop-reached
invariant-loop-reached l = IsReached l.rects l.reached l.row

abbrev pub decreases-loop-reached : goal.decreases-loop-reached
decreases-loop-reached l = length l.rects - l.reached.count
