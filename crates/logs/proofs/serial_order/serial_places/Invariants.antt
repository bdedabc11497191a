use Rattle.std.proofs.Common.{◌≡◌, ◌<◌, ◌==◌, ℕ, drop, get_or, length, unwrap_or}
use Rattle.std.specs.List.{position_from}
use Rattle.logs.proofs.serial_order.serial_places.Given as goal

abbrev pub invariant-loop-k : goal.invariant-loop-k
invariant-loop-k l = record {
  each : length l.places.items ≡ l.count;
  placed : (item : ℕ) → item < l.count → get_or l.places.items item 0
      ≡ unwrap_or (position_from (λ i. i == item) l.k (drop l.k l.order)) (length l.order);
}
