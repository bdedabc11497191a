use Rattle.std.proofs.Common.{[]}
use Rattle.event_graph.specs.Marked.{AreMarked}
use Rattle.event_graph.proofs.marks.no_marks.Given as goal

abbrev pub invariant-loop-i : goal.invariant-loop-i
invariant-loop-i l = AreMarked l.marks.items l._i []
