use Rattle.std.proofs.Common.{◌≡◌, ℕ, ◌<◌, get_or, length}
use Rattle.event_graph.proofs.order.places_in.Given as goal

abbrev pub invariant-loop-p : goal.invariant-loop-p
invariant-loop-p l = record {
  each : length l.places.items ≡ l.count;
  placed : (m : ℕ) → m < l.p → get_or l.places.items (get_or l.nodes m 0) 0 ≡ m;
}
