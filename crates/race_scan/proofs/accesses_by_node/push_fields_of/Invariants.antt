use Rattle.std.proofs.Common.{◌≡◌, ◌++◌, flat_map, take}
use Rattle.cell_races.specs.CellAccesses.{cell_accesses_of}
use Rattle.race_scan.proofs.accesses_by_node.push_fields_of.Given as goal

abbrev pub invariant-loop-step : goal.invariant-loop-step
invariant-loop-step g l = l.cell_accesses.items ≡ l.fn.cell_accesses.items ++ flat_map (cell_accesses_of l.place) (take l.step-index l.step-items)
