use Rattle.std.proofs.Common.{take}
use Rattle.task_order.specs.Gathered.{AreDoneBy}
use Rattle.task_order.proofs.task_cell_accesses.cell_accesses_at_points.Given as goal

abbrev pub invariant-loop-req : goal.invariant-loop-req
invariant-loop-req g l = AreDoneBy l.log l.points (take l.req-index l.req-items) l.cell_accesses.items
