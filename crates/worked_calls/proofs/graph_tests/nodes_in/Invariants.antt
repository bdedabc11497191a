use Rattle.std.proofs.Common.{◌≡◌, take}
use Rattle.vocabulary.specs.Prelude.{graph_of}
use Rattle.worked_calls.proofs.graph_tests.nodes_in.Given as goal

abbrev pub invariant-loop-node : goal.invariant-loop-node
invariant-loop-node l = l.list.items ≡ graph_of (take l.node-index l.nodes)
