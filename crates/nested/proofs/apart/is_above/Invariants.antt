use Rattle.std.proofs.Common.{◌≡◌}
use Rattle.vocabulary.specs.Prelude.{is_in}
use Rattle.semantics.specs.Nesting.{from_group, is_ancestor}
use Rattle.nested.proofs.apart.is_above.Given as goal

abbrev pub invariant-loop-left : goal.invariant-loop-left
invariant-loop-left l = is_ancestor l.groups l.g l.h ≡ is_in (from_group l.groups l.left l.above) l.g

abbrev pub decreases-loop-left : goal.decreases-loop-left
decreases-loop-left l = l.left
