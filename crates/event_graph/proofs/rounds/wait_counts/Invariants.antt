use Rattle.std.proofs.Common.{◌≡◌, ◌<◌, ℕ, length, get_or}
use Rattle.semantics.specs.ReplayOrder.{waits_at}
use Rattle.event_graph.proofs.rounds.wait_counts.Given as goal

abbrev pub invariant-loop-k : goal.invariant-loop-k
invariant-loop-k l = record {
  each : length l.counts.items ≡ l.k;
  counts : (j : ℕ) → j < l.k → get_or l.counts.items j 0 ≡ length (waits_at l.graph j);
}
