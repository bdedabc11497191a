use Rattle.std.proofs.Common.{take}
use Rattle.event_graph.specs.WaitCounts.{AddsWaits, times}
use Rattle.event_graph.proofs.waiters.add_waits.Given as goal

abbrev pub invariant-loop-p : goal.invariant-loop-p
invariant-loop-p l = AddsWaits l.fn.waiters l.waiters l.k (λ q. times q (take l.p-index l.sources))
