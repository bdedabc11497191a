use Rattle.std.proofs.Common.{◌≡◌, ◌<◌, ◌++◌, ◌∷◌, [], if◌then◌else◌}
use Rattle.std.specs.List.{AllPairs}
use Rattle.vocabulary.specs.Prelude.{Place}
use Rattle.serial_exec.specs.Changes.{covered}
use Rattle.serial_exec.specs.Histories.{listed}
use Rattle.serial_exec.proofs.histories.note_all.Given as goal

abbrev pub invariant-loop-point : goal.invariant-loop-point
invariant-loop-point g l =
    (goal.iterator-loop-point g).can_next l.point-iterator × (goal.iterator-loop-point g).is_finite l.point-iterator
    × AllPairs (λ p q. p < q) l.point-iterator
    × ((p : Place) → listed l.histories p ++ (if covered l.tree l.point-iterator l.fields p then l.change ∷ [] else [])
    ≡ listed l.initial.histories p ++ (if covered l.tree (g.P.PointSet.points l.set) l.fields p then l.change ∷ [] else []))
