use Rattle.std.proofs.Common.{◌≡◌, ◌++◌, reverse, take}
use Rattle.semantics.specs.ReplayOrder.{up_to}
use Rattle.event_graph.proofs.cycle_walk.back_to.Given as goal

abbrev pub invariant-loop-i : goal.invariant-loop-i
invariant-loop-i l = up_to l.at (reverse l.trail) ≡ l.round.items ++ up_to l.at (reverse (take l.i l.trail))
