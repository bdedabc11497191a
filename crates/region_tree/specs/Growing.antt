-- Declarations as they grow, one by one.
use Rattle.std.specs.Prelude.{◌≡◌, ◌≢◌, ℕ, ◌≤◌, ◌<◌, ◌++◌, [], ◌∷◌, All, Some, IsSome, length}
use Rattle.semantics.specs.declared.limits.TheConstants.{DEEPEST}
use Rattle.vocabulary.specs.Prelude.{Part, Sub, Space}
use Rattle.log_tables.specs.Regions.{Regions, space_of, part_of, whole_of, step_of}
use Rattle.region_tree.specs.Ancestors.{ancestor_of}
use Rattle.region_tree.specs.Shape.{IsForest}

-- Declarations that make a forest, in which no space lies more steps below another than there are subspaces.
pub record IsGrown (d : Regions) : Type 0 where
  pub forest : IsForest d
  pub counted : (space root n : ℕ) → ancestor_of d n space ≡ Some root → n ≤ length d.subs

-- One declaration more.
abbrev pub with_space : Regions → Space → Regions
with_space d s = record d { spaces = d.spaces ++ s ∷ [] }

abbrev pub with_part : Regions → Part → Regions
with_part d p = record d { parts = d.parts ++ p ∷ [] }

abbrev pub with_sub : Regions → Sub → Regions
with_sub d s = record d { subs = d.subs ++ s ∷ [] }

-- The subspace may be declared: its partition and its space are, its step is new, its space is no subspace
-- yet and is not split, and the space of its partition lies less than `DEEPEST` steps below another.
pub record MaySub (d : Regions) (s : Sub) : Type 0 where
  pub part : IsSome (part_of d s.part)
  pub space : IsSome (space_of d s.space)
  pub step : All (λ u. step_of u ≢ step_of s) d.subs
  pub sub : All (λ u. u.space ≢ s.space) d.subs
  pub whole : All (λ p. p.space ≢ s.space) d.parts
  pub depth : (whole root n : ℕ) → whole_of d s.part ≡ Some whole → ancestor_of d n whole ≡ Some root
      → n < DEEPEST
