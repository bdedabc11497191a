use Rattle.std.proofs.Common.{◌-◌, ◌≤◌, ◌^◌}
use Rattle.point_set.proofs.Numbers.{FullUpTo}
use Rattle.point_set.proofs.plane.gap_right_of.Given as goal

abbrev pub invariant-loop-column : goal.invariant-loop-column
invariant-loop-column l = record {
  from : l.x ≤ l.full;
  filled : FullUpTo l.rects l.x l.full;
}

abbrev pub decreases-loop-column : goal.decreases-loop-column
decreases-loop-column l = 2 ^ 32 - l.full
