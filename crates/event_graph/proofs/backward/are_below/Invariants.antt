use Rattle.std.proofs.Common.{◌<◌, All, take}
use Rattle.event_graph.proofs.backward.are_below.Given as goal

abbrev pub invariant-loop-p : goal.invariant-loop-p
invariant-loop-p l = All (λ p. p < l.k) (take l.p-index l.numbers)
