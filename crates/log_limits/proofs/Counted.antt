-- The cells that begin in a space, looked up by its id.
use Rattle.std.proofs.Common.{◌≡◌, ℕ, ◌*◌, ◌==◌, true, List, [], ◌∷◌, find, length, map, inl, inr, refl, ap, ◌∙◌}
use Rattle.std.specs.Option.{option_map_or}
use Rattle.std.proofs.lemmas.Bool.{cases_Bool}
use Rattle.vocabulary.specs.Prelude.{Rect, Space, Tables}
use Rattle.grid.specs.Corners.{corners_in}
use Rattle.grid.specs.Cuts.{grid_of}
use Rattle.semantics.specs.Rules.{cost_of, is_planar}
use Rattle.log_limits.specs.Corners.{GridCorners, corner_total, corners_of, space_corners}

total_of : (rects : List Rect) (id : ℕ) (ss : List Space)
    → corner_total (record { grid = grid_of rects; counts = map (space_corners rects) ss }) id ≡ length (corners_in rects (option_map_or (λ (s : Space). s.points) (find (λ (s : Space). s.id == id) ss) []))
total_of rects id [] = refl
total_of rects id (s ∷ ss) = elim (cases_Bool (s.id == id)) [
  | inl here ↦ rw here refl
  | inr there ↦ rw there (total_of rects id ss)
]

pub cost_is : (t : Tables) (cs : GridCorners) (space : ℕ) (fields : List ℕ) → cs ≡ corners_of t → is_planar t ≡ true
    → corner_total cs space * length fields ≡ cost_of t space fields
cost_is t cs space fields is planar =
    ap (λ ds. corner_total ds space * length fields) is ∙ ap (λ n. n * length fields) (total_of t.rects space t.spaces) ∙ rw planar refl
