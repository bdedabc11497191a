use Rattle.std.proofs.Common.{◌+◌, length}
use Rattle.value_terms.specs.Values.{joined, total}
use Rattle.value_terms.proofs.Placing.{Merging}
use Rattle.value_terms.proofs.bag.merged.Given as goal

abbrev pub invariant-loop-a : goal.invariant-loop-a
invariant-loop-a l = Merging (joined l.one l.other) l.out.items l.a l.b (total l.one + total l.other)

abbrev pub decreases-loop-a : goal.decreases-loop-a
decreases-loop-a l = length l.a + length l.b
