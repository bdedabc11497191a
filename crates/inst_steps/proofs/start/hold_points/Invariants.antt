use Rattle.std.proofs.Common.{◌≡◌, Some, if◌then◌else◌}
use Rattle.std.specs.FinMap.{get}
use Rattle.vocabulary.specs.Prelude.{Cell, is_in}
use Rattle.shared_values.specs.Arenas.{value_at}
use Rattle.inst_steps.specs.Stores.{is_at_points}
use Rattle.inst_steps.proofs.start.hold_points.Given as goal

abbrev pub invariant-loop-point : goal.invariant-loop-point
invariant-loop-point g l =
    (goal.iterator-loop-point g).can_next l.point-iterator × (goal.iterator-loop-point g).is_finite l.point-iterator
    × (l.store.values ≡ l.fn.store.values)
    × ((c : Cell) → (if is_at_points l.inst (is_in l.point-iterator) l.fields c then Some (value_at l.fn.store.values l.number)
    else get l.store.cells c)
    ≡ (if is_at_points l.inst (is_in (g.P.PointSet.points l.set)) l.fields c then Some (value_at l.fn.store.values l.number)
    else get l.fn.store.cells c))
