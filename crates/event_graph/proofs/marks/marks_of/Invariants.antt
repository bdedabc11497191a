use Rattle.std.proofs.Common.{take}
use Rattle.event_graph.specs.Marked.{AreMarked}
use Rattle.event_graph.proofs.marks.marks_of.Given as goal

abbrev pub invariant-loop-k : goal.invariant-loop-k
invariant-loop-k l = AreMarked l.marks.items l.count (take l.k-index l.ks)
