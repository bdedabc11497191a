use Rattle.std.proofs.Common.{◌≡◌}
use Rattle.std.specs.List.{range_with_len}
use Rattle.logs.proofs.serial_order.program_order.Given as goal

abbrev pub invariant-loop-item : goal.invariant-loop-item
invariant-loop-item l = l.order.items ≡ range_with_len 0 l.item
