use Rattle.std.proofs.Common.{All, take}
use Rattle.cell_races.specs.declared.cell_accesses.CellAccess.{CellAccess}
use Rattle.cell_races.specs.CellAccesses.{AreDigits}
use Rattle.cell_races.proofs.cell_sort.read_digits.Given as goal

abbrev pub invariant-loop-cell_access : goal.invariant-loop-cell_access
invariant-loop-cell_access l = All (λ (x : CellAccess). AreDigits x.cell) (take l.cell_access-index l.cell_accesses)
