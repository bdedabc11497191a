use Rattle.std.proofs.Common.{All, take}
use Rattle.cell_races.specs.Turns.{IsMarked}
use Rattle.task_order.proofs.scan.are_marked.Given as goal

abbrev pub invariant-loop-cell_access : goal.invariant-loop-cell_access
invariant-loop-cell_access l = All (IsMarked l.order l.reach) (take l.cell_access-index l.cell_accesses)
