use Rattle.std.proofs.Common.{◌≡◌, ℕ, get_or, [], if◌then◌else◌, nat_lt, length, slice_get, Some}
use Rattle.vocabulary.specs.Prelude.{Node}
use Rattle.semantics.specs.ReplayOrder.{waits_at}
use Rattle.event_graph.specs.WaitCounts.{times}
use Rattle.event_graph.proofs.waiters.waiters_of.Given as goal

abbrev pub invariant-loop-k : goal.invariant-loop-k
invariant-loop-k l = record {
  each : length l.waiters ≡ length l.graph;
  listed : (p : ℕ) (n : Node) → slice_get l.graph p ≡ Some n → (s : ℕ)
      → times s (get_or l.waiters p []) ≡ (if nat_lt s l.k then times n.done (waits_at l.graph s) else 0);
}
