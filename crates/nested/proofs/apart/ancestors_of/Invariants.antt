use Rattle.std.proofs.Common.{◌≡◌, ◌++◌}
use Rattle.semantics.specs.Nesting.{ancestors, from_group}
use Rattle.nested.proofs.apart.ancestors_of.Given as goal

abbrev pub invariant-loop-left : goal.invariant-loop-left
invariant-loop-left l = l.all.items ++ from_group l.groups l.left l.above ≡ ancestors l.groups l.group

abbrev pub decreases-loop-left : goal.decreases-loop-left
decreases-loop-left l = l.left
