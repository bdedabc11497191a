-- Declarations that make a forest.
use Rattle.std.specs.Prelude.{◌≡◌, ◌≢◌, ℕ, ◌≤◌, All, AllPairs, Some, IsSome}
use Rattle.semantics.specs.declared.limits.TheConstants.{DEEPEST}
use Rattle.log_tables.specs.Regions.{Regions, space_of, part_of, step_of}
use Rattle.region_tree.specs.Ancestors.{ancestor_of, IsBelow}

-- No two spaces have one id, and no two partitions.
-- Each space and each partition that is named is declared.
-- No two subspaces have one partition and colour, and none is declared twice.
-- No space lies below itself, and none more than `DEEPEST` steps below another.
pub record IsForest (d : Regions) : Type 0 where
  pub space_ids : AllPairs (λ s t. s.id ≢ t.id) d.spaces
  pub part_ids : AllPairs (λ p q. p.id ≢ q.id) d.parts
  pub steps : AllPairs (λ s t. step_of s ≢ step_of t) d.subs
  pub sub_spaces : AllPairs (λ s t. s.space ≢ t.space) d.subs
  pub wholes_declared : All (λ p. IsSome (space_of d p.space)) d.parts
  pub parts_declared : All (λ s. IsSome (part_of d s.part)) d.subs
  pub spaces_declared : All (λ s. IsSome (space_of d s.space)) d.subs
  pub acyclic : (space : ℕ) → ¬ IsBelow d space space
  pub shallow : (space root n : ℕ) → ancestor_of d n space ≡ Some root → n ≤ DEEPEST
