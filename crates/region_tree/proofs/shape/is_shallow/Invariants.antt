use Rattle.std.proofs.Common.{◌≡◌, Some}
use Rattle.region_tree.specs.Ancestors.{ancestor_of}
use Rattle.region_tree.proofs.shape.is_shallow.Given as goal

abbrev pub invariant-loop-up : goal.invariant-loop-up
invariant-loop-up g l = ancestor_of l.decls l._up l.space ≡ Some l.at
