-- Paths, step by step.
use Rattle.std.proofs.Common.{◌≡◌, ℕ, List, ◌∷◌, ◌==◌, Contains, Option, Some, None, IsSome, subst, refl, sym, ap, ◌∙◌}
use Rattle.std.specs.Option.{option_and_then}
use Rattle.std.proofs.lemmas.Bool.{eqb-true}
use Rattle.std.proofs.lemmas.Option.{none-some}
use Rattle.vocabulary.specs.Prelude.{Part, Sub}
use Rattle.log_tables.specs.declared.entries.Step.{Step}
use Rattle.log_tables.specs.Regions.{Regions, step_of, space_of, part_of, sub_of, whole_of, parent_of}
use Rattle.region_tree.specs.Shape.{IsForest}
use Rattle.region_tree.specs.Paths.{Leads, step_with, step_to}
use Rattle.list_lemmas.proofs.lemmas.Firsts.{map_cases, find_some, all_at, contains_at}
use Rattle.region_tree.proofs.lemmas.Climbs.{sub_from_parent}

-- what a partition cuts is declared
pub whole_declared : (d : Regions) (part w : ℕ) → IsForest d → whole_of d part ≡ Some w → IsSome (space_of d w)
whole_declared d part w forest e =
    let h = map_cases (λ (p : Part). p.space) (part_of d part) w e in
    let at = find_some (λ (p : Part). p.id == part) d.parts h.0 h.1 in
    subst (λ v. IsSome (space_of d v)) h.2 (all_at (λ (p : Part). IsSome (space_of d p.space)) d.parts at.0 h.0 forest.wholes_declared at.1)

pub parent_declared : (d : Regions) (space up : ℕ) → IsForest d → parent_of d space ≡ Some up → IsSome (space_of d up)
parent_declared d space up forest e = let h = sub_from_parent d space up e in whole_declared d h.0.part up forest h.5

-- a step to a space, and the space above it
step_cases : (d : Regions) (o : Option Sub) (step : Step) (w : ℕ) → option_and_then (step_with d) o ≡ Some (step, w) → (s : Sub)
    × (o ≡ Some s) × (step_of s ≡ step) × (whole_of d s.part ≡ Some w)
step_cases d (Some s) step w e =
    let f : ℕ → Step × ℕ = λ whole. (step_of s, whole) in
    let h = map_cases f (whole_of d s.part) (step, w) e in
    let at : h.0 ≡ w = ap (λ (p : Step × ℕ). p.1) h.2 in
    (s, refl, ap (λ (p : Step × ℕ). p.0) h.2, h.1 ∙ ap (λ v. Some v) at)
step_cases d None step w e = absurd (none-some (step, w) e)

pub step_up : (d : Regions) (space w : ℕ) (step : Step) → step_to d space ≡ Some (step, w) → (s : Sub) × Contains d.subs s
    × (step_of s ≡ step) × (whole_of d s.part ≡ Some w) × (s.space ≡ space) × (parent_of d space ≡ Some w)
step_up d space w step e =
    let h = step_cases d (sub_of d space) step w e in
    let at = find_some (λ (s : Sub). s.space == space) d.subs h.0 h.1 in (
      h.0,
      contains_at d.subs at.0 h.0 at.1,
      h.2,
      h.3,
      eqb-true h.0.space space at.2,
      ap (option_and_then (λ (s : Sub). whole_of d s.part)) h.1 ∙ h.3,
    )

-- one step more at the front
pub leads_from : (d : Regions) (space w to : ℕ) (step : Step) (steps : List Step) → step_to d space ≡ Some (step, w)
    → Leads d space steps to → Leads d w (step ∷ steps) to
leads_from d space w to step steps e leads =
    let h = step_up d space w step e in (h.0, h.1, h.2, h.3, subst (λ from. Leads d from steps to) (sym h.4) leads)
