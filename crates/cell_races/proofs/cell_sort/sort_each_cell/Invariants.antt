use Rattle.std.proofs.Common.{◌≤◌, ◌-◌, length, take, drop}
use Rattle.std.specs.List.Sorted.{IsPermutation}
use Rattle.cell_races.specs.CellAccesses.{AreByCell, AreInOrder}
use Rattle.cell_races.proofs.Cells.{IsApart}
use Rattle.cell_races.proofs.cell_sort.sort_each_cell.Given as goal

abbrev pub invariant-loop-from : goal.invariant-loop-from
invariant-loop-from l = record {
  moved : IsPermutation l.initial.cell_accesses l.cell_accesses;
  within : l.from ≤ length l.cell_accesses;
  by_cell : AreByCell l.cell_accesses;
  in_order : AreInOrder (take l.from l.cell_accesses);
  apart : IsApart (take l.from l.cell_accesses) (drop l.from l.cell_accesses);
}

abbrev pub decreases-loop-from : goal.decreases-loop-from
decreases-loop-from l = length l.cell_accesses - l.from
