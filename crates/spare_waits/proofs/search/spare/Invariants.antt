use Rattle.spare_laws.specs.Listed.{AreUpTo}
use Rattle.spare_waits.proofs.search.spare.Given as goal

abbrev pub invariant-loop-node : goal.invariant-loop-node
invariant-loop-node l = AreUpTo l.graph l.node l.list.items
