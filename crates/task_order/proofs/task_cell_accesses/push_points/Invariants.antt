use Rattle.std.proofs.Common.{◌≡◌, ◌++◌}
use Rattle.task_order.specs.Gathered.{cell_accesses_over}
use Rattle.task_order.proofs.task_cell_accesses.push_points.Given as goal

abbrev pub invariant-loop-point : goal.invariant-loop-point
invariant-loop-point g l =
    (goal.iterator-loop-point g).can_next l.point-iterator × (goal.iterator-loop-point g).is_finite l.point-iterator
    × (l.cell_accesses.items ++ cell_accesses_over l.one l.point-iterator l.fields
    ≡ l.fn.cell_accesses.items ++ cell_accesses_over l.one (g.P.PointSet.points l.set) l.fields)
