use Rattle.std.proofs.Common.{◌≡◌, map, take}
use Rattle.covered_cells.specs.declared.grid_cell.GridCell.{GridCell}
use Rattle.atoms.proofs.cells.firsts_of.Given as goal

abbrev pub invariant-loop-cell : goal.invariant-loop-cell
invariant-loop-cell l = l.firsts.items ≡ map (λ (c : GridCell). c.first) (take l.cell-index l.cells)
