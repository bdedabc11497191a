use Rattle.std.proofs.Common.{◌≡◌, length}
use Rattle.value_terms.specs.Values.{same_groups}
use Rattle.value_terms.proofs.groups.same_groups.Given as goal

abbrev pub invariant-loop-a : goal.invariant-loop-a
invariant-loop-a l = same_groups l.a l.b ≡ same_groups l.one l.other

abbrev pub decreases-loop-a : goal.decreases-loop-a
decreases-loop-a l = length l.a
