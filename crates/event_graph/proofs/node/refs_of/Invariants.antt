use Rattle.std.proofs.Common.{◌≡◌, take}
use Rattle.event_graph.proofs.node.refs_of.Given as goal

abbrev pub invariant-loop-node : goal.invariant-loop-node
invariant-loop-node l = l.refs.items ≡ take l.node-index l.nodes
