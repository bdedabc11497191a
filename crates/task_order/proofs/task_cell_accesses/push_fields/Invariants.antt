use Rattle.std.proofs.Common.{◌≡◌, ◌++◌, map, take}
use Rattle.task_order.specs.Gathered.{cell_access_at}
use Rattle.task_order.proofs.task_cell_accesses.push_fields.Given as goal

abbrev pub invariant-loop-field : goal.invariant-loop-field
invariant-loop-field l = l.cell_accesses.items ≡ l.fn.cell_accesses.items ++ map (cell_access_at l.one l.point) (take l.field-index l.fields)
