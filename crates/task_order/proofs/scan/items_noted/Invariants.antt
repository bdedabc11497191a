use Rattle.std.proofs.Common.{◌≡◌, ℕ, ◌<◌, length}
use Rattle.semantics.specs.SerialOrder.{serial_place}
use Rattle.cell_races.specs.Turns.{is_noted}
use Rattle.task_order.proofs.scan.items_noted.Given as goal

abbrev pub invariant-loop-item : goal.invariant-loop-item
invariant-loop-item g l = record {
  long : length l.items.items ≡ l.item;
  noted : (k : ℕ) → k < l.item → is_noted l.items.items k ≡ is_noted l.noted (serial_place l.log k);
}
