use Rattle.std.proofs.Common.{◌≡◌, take}
use Rattle.event_graph.proofs.graph.as_positions.Given as goal

abbrev pub invariant-loop-number : goal.invariant-loop-number
invariant-loop-number l = l.positions.items ≡ take l.number-index l.numbers
