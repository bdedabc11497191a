use Rattle.std.proofs.Common.{◌≡◌, ℕ, ◌<◌, Some, slice_get}
use Rattle.std.specs.Fn.{FnReturnsAt}
use Rattle.region_tree.proofs.shape.stand_first.Given as goal

abbrev pub invariant-loop-i : goal.invariant-loop-i
invariant-loop-i g l = (k : ℕ) → k < l.i → (x : _) → slice_get l.items k ≡ Some x → FnReturnsAt g.F.Fn l.first_place x (Some k)
