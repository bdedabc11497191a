use Rattle.std.proofs.Common.{length}
use Rattle.region_tree.proofs.Clashing.{IsPassed}
use Rattle.region_tree.proofs.clashes.one_failing.Given as goal

abbrev pub invariant-loop-group : goal.invariant-loop-group
invariant-loop-group g l = IsPassed l.decls l.asked l.limit l.claims l.rest l.found

abbrev pub decreases-loop-group : goal.decreases-loop-group
decreases-loop-group g l = length l.rest
