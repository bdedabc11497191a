use Rattle.std.proofs.Common.{◌≡◌, map, take}
use Rattle.event_graph.specs.Orders.{event_at}
use Rattle.event_graph.proofs.graph.events_at.Given as goal

abbrev pub invariant-loop-k : goal.invariant-loop-k
invariant-loop-k l = l.events.items ≡ map (event_at l.graph) (take l.k-index l.ks)
