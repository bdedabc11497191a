use Rattle.std.proofs.Common.{◌≡◌, ◌++◌, length}
use Rattle.value_terms.proofs.groups.copies_of.Given as goal

abbrev pub invariant-loop-rest : goal.invariant-loop-rest
invariant-loop-rest l = l.copies.items ++ l.rest ≡ l.groups

abbrev pub decreases-loop-rest : goal.decreases-loop-rest
decreases-loop-rest l = length l.rest
