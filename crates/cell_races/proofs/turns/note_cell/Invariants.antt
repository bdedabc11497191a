use Rattle.std.proofs.Common.{take}
use Rattle.reach_marks.specs.Reached.{before_in}
use Rattle.cell_races.proofs.Sifting.{IsSifted}
use Rattle.cell_races.proofs.turns.note_cell.Given as goal

abbrev pub invariant-loop-cell_access : goal.invariant-loop-cell_access
invariant-loop-cell_access l =
    IsSifted (before_in l.reach) l.order (take l.cell_access-index l.cell_accesses) l.frontier l.fn.noted.items l.noted.items
