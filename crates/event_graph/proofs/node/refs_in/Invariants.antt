use Rattle.std.proofs.Common.{◌≡◌, take}
use Rattle.vocabulary.specs.Prelude.{graph_of}
use Rattle.event_graph.proofs.node.refs_in.Given as goal

abbrev pub invariant-loop-node : goal.invariant-loop-node
invariant-loop-node l = l.refs.items ≡ graph_of (take l.node-index l.nodes)
