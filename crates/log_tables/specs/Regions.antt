-- What is declared of regions: spaces, partitions of spaces, and the subspaces of partitions.
use Rattle.std.specs.Prelude.{◌≡◌, ℕ, ◌==◌, ◌&&◌, Bool, List, [], find, Option, MatchOption}
use Rattle.std.specs.Borrow.{Bor}
use Rattle.std.specs.Option.{option_map, option_map_or, option_and_then}
use Rattle.vocabulary.specs.Prelude.{Part, Sub, Tables, Space}
use Rattle.log_tables.specs.declared.entries.Step.{Step}

-- The declarations, each kind in the order in which they were made.
pub record Regions : Type 0 where
  pub spaces : List Space
  pub parts : List Part
  pub subs : List Sub

-- What tables declare of regions. What is looked up in them is what is looked up in the tables.
abbrev pub regions_of : Tables → Regions
regions_of t = record { spaces = t.spaces; parts = t.parts; subs = t.subs }

-- The step that a subspace is under its partition.
abbrev pub step_of : Sub → Step
step_of s = record { part = s.part; colour = s.colour }

-- Whether the subspace has the partition and the colour of this step.
abbrev pub is_at : Step → Sub → Bool
is_at step s = (s.part == step.part) && (s.colour == step.colour)

-- The space with this id.
abbrev pub space_of : Regions → ℕ → Option Space
space_of d id = find (λ s. s.id == id) d.spaces

-- The partition with this id.
abbrev pub part_of : Regions → ℕ → Option Part
part_of d id = find (λ p. p.id == id) d.parts

-- What declares the space as a subspace.
abbrev pub sub_of : Regions → ℕ → Option Sub
sub_of d space = find (λ s. s.space == space) d.subs

-- The subspace that a partition has under a colour.
abbrev pub child_of : Regions → Step → Option Sub
child_of d step = find (is_at step) d.subs

-- The points of a space, if it is declared.
abbrev pub declared_points : Regions → ℕ → Option (List ℕ)
declared_points d id = option_map (λ s. s.points) (space_of d id)

-- The points of a space: none where it is not declared.
abbrev pub space_points : Regions → ℕ → List ℕ
space_points d id = option_map_or (λ s. s.points) (space_of d id) []

-- The set has just these points, and there is none only where there are no points.
abbrev pub IsSetOf : {P : Type 0} → (P → List ℕ) → Option (Bor P) → List ℕ → Type 0
IsSetOf points o ps = MatchOption o (ps ≡ []) (λ s. ps ≡ points s.now)

-- The space that a partition cuts.
abbrev pub whole_of : Regions → ℕ → Option ℕ
whole_of d part = option_map (λ p. p.space) (part_of d part)

-- The space of which this one is a subspace.
abbrev pub parent_of : Regions → ℕ → Option ℕ
parent_of d space = option_and_then (λ s. whole_of d s.part) (sub_of d space)
