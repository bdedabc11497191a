use Rattle.std.proofs.Common.{◌≡◌, ◌++◌}
use Rattle.log_rules.proofs.claim_points.all_points.Given as goal

abbrev pub invariant-loop-point : goal.invariant-loop-point
invariant-loop-point g l =
    (goal.iterator-loop-point g).can_next l.point-iterator × (goal.iterator-loop-point g).is_finite l.point-iterator
    × (l.points.items ++ l.point-iterator ≡ g.P.PointSet.points l.set)
