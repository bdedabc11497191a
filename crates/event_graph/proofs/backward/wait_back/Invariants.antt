use Rattle.std.proofs.Common.{ℕ, ◌<◌, All}
use Rattle.semantics.specs.ReplayOrder.{waits_at}
use Rattle.event_graph.specs.EventPlaces.{IsBehind}
use Rattle.event_graph.proofs.backward.wait_back.Given as goal

abbrev pub invariant-loop-k : goal.invariant-loop-k
invariant-loop-k l = (j : ℕ) → j < l.k → All (IsBehind l.graph j) (waits_at l.graph j)
