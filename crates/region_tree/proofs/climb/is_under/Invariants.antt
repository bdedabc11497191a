use Rattle.std.proofs.Common.{◌≡◌, ℕ, ◌<◌, Some, IsSome}
use Rattle.log_tables.specs.Regions.{space_of}
use Rattle.region_tree.specs.Ancestors.{ancestor_of}
use Rattle.region_tree.proofs.climb.is_under.Given as goal

abbrev pub invariant-loop-up : goal.invariant-loop-up
invariant-loop-up g l = record {
  above : ancestor_of l.decls l._up l.space ≡ Some l.at;
  declared : IsSome (space_of l.decls l.at);
  passed : (k : ℕ) → k < l._up → ancestor_of l.decls k l.space ≡ Some l.root → ⊥;
}
