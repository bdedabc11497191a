use Rattle.std.proofs.Common.{◌≡◌, map, take, slice_index}
use Rattle.task_order.proofs.scan.runs_in_order.Given as goal

abbrev pub invariant-loop-item : goal.invariant-loop-item
invariant-loop-item g l = l.order.items ≡ map (λ item. slice_index l.runs item) (take l.item-index l.item-items)
