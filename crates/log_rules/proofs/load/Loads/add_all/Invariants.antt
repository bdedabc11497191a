use Rattle.std.proofs.Common.{◌≡◌, ◌+◌, ◌<◌}
use Rattle.std.specs.List.{AllPairs}
use Rattle.vocabulary.specs.Prelude.{Place}
use Rattle.log_limits.specs.Sums.{cut}
use Rattle.log_rules.specs.Loads.{load_in, one, is_held}
use Rattle.log_rules.proofs.load.Loads.add_all.Given as goal

abbrev pub invariant-loop-point : goal.invariant-loop-point
invariant-loop-point g l =
    (goal.iterator-loop-point g).can_next l.point-iterator × (goal.iterator-loop-point g).is_finite l.point-iterator
    × AllPairs (λ p q. p < q) l.point-iterator
    × ((k : Place) →
    cut (load_in l.self k + one (is_held l.tree l.point-iterator l.fields k))
    ≡ cut (load_in l.initial.self k + one (is_held l.tree (g.P.PointSet.points l.set) l.fields k)))
