use Rattle.std.proofs.Common.{◌≡◌, ◌++◌, flat_map}
use Rattle.cell_races.specs.CellAccesses.{cell_accesses_of}
use Rattle.inst_steps.specs.Stepping.{moves_at}
use Rattle.race_scan.proofs.accesses_by_node.push_few.Given as goal

abbrev pub invariant-loop-step : goal.invariant-loop-step
invariant-loop-step g l =
    (goal.iterator-loop-step g).can_next l.step-iterator × (goal.iterator-loop-step g).is_finite l.step-iterator
    × (l.cell_accesses.items ++ flat_map (cell_accesses_of l.place) l.step-iterator
    ≡ l.fn.cell_accesses.items ++ flat_map (cell_accesses_of l.place) (moves_at l.log l.node))
