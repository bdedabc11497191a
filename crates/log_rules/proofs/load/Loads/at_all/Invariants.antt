use Rattle.std.proofs.Common.{◌≡◌, ◌+◌, ◌<◌, ◌^◌}
use Rattle.log_limits.specs.Sums.{cut}
use Rattle.log_rules.specs.Loads.{load_in, grid_load}
use Rattle.log_rules.proofs.load.Loads.at_all.Given as goal

abbrev pub invariant-loop-point : goal.invariant-loop-point
invariant-loop-point g l =
    (goal.iterator-loop-point g).can_next l.point-iterator × (goal.iterator-loop-point g).is_finite l.point-iterator
    × (l.load < 2 ^ 128)
    × (cut (l.load + grid_load (load_in l.self) l.tree l.fields l.point-iterator)
    ≡ cut (grid_load (load_in l.self) l.tree l.fields (g.P.PointSet.points l.set)))
