use Rattle.std.proofs.Common.{◌≡◌, drop}
use Rattle.semantics.specs.ReplayOrder.{least_among}
use Rattle.event_graph.proofs.cycle_walk.least_of.Given as goal

abbrev pub invariant-loop-n : goal.invariant-loop-n
invariant-loop-n l = least_among l.fn.first l.rest ≡ least_among l.least (drop l.n-index l.rest)
