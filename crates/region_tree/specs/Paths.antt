-- Paths from topmost spaces down.
use Rattle.std.specs.Prelude.{◌≡◌, ℕ, List, [], ◌∷◌, Contains, Option, Some, None, IsSome, option_and_then}
use Rattle.std.specs.Option.{option_map}
use Rattle.vocabulary.specs.Prelude.{Sub}
use Rattle.log_tables.specs.declared.entries.Step.{Step}
use Rattle.log_tables.specs.Regions.{Regions, step_of, space_of, sub_of, whole_of, parent_of}

-- A topmost space, and steps down.
pub record Way : Type 0 where
  pub top : ℕ
  pub steps : List Step

-- The steps lead from one space down to another: each to a subspace of the space that the steps before it
-- reach.
abbrev pub Leads : Regions → ℕ → List Step → ℕ → Type 0
Leads d from [] to = from ≡ to
Leads d from (step ∷ steps) to = (s : Sub) × Contains d.subs s × (step_of s ≡ step)
    × (whole_of d s.part ≡ Some from) × Leads d s.space steps to

-- The path of a space: from a declared space that lies below no other, down to it.
abbrev pub IsPath : Regions → Way → ℕ → Type 0
IsPath d way space = IsSome (space_of d way.top) × (parent_of d way.top ≡ None)
    × Leads d way.top way.steps space

-- The step to a declared subspace, with the space from which it leads.
abbrev pub step_with : Regions → Sub → Option (Step × ℕ)
step_with d s = option_map (λ whole. (step_of s, whole)) (whole_of d s.part)

-- The last step to a space, with the space from which it leads: none of a topmost one.
abbrev pub step_to : Regions → ℕ → Option (Step × ℕ)
step_to d space = option_and_then (step_with d) (sub_of d space)
