use Rattle.std.proofs.Common.{◌≡◌, map, take}
use Rattle.task_order.specs.Users.{user_of}
use Rattle.task_order.proofs.cells.users_of.Given as goal

abbrev pub invariant-loop-cell_access : goal.invariant-loop-cell_access
invariant-loop-cell_access l = l.users.items ≡ map (user_of l.order) (take l.cell_access-index l.cell_accesses)
