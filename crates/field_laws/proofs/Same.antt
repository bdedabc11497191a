-- The moves at alike fields are the same.
use Rattle.std.proofs.Common.{◌≡◌, ℕ, ◌==◌, inl, inr, Bool, cond, List, [], ◌∷◌, map, filter, flat_map, refl, sym, ap, ap₂, ◌∙◌, subst, unwrap_or, slice_get, Contains}
use Rattle.std.proofs.lemmas.List.Concat.{flat_map_single}
use Rattle.vocabulary.specs.Prelude.{Cell, Move, Req, Op, Tables, is_in, points_in, reqs_of, grid, Step, id_of, cell_in, mapped_cell, operator_of, reads_by, changes_by, at_cells, moves_of, steps_by}
use Rattle.semantics.specs.declared.moves.Move.TheVariants as moves
use Rattle.semantics.specs.declared.tables.Op.TheVariants as operations
use Rattle.log_laws.proofs.lemmas.StepLists.{moves_at, steps_at}
use Rattle.list_lemmas.proofs.lemmas.Contained.{Contains-here}
use Rattle.list_lemmas.proofs.lemmas.Filtered.{of_filter}
use Rattle.list_lemmas.proofs.lemmas.Firsts.{cases_option, contains_at}
use Rattle.list_lemmas.proofs.lemmas.Pairs.{Apart}
use Rattle.point_laws.specs.Axes.{ByField, cell_to, move_to, step_to, target, is_along}
use Rattle.point_laws.proofs.lemmas.Rows.{Same, same_append, same_flat, same_map, flat_grid, kept_row, map_cond}
use Rattle.point_laws.proofs.lemmas.TaskMoves.{at_along, Does, reads_kept, reads_moved, changes_kept, changes_moved}
use Rattle.field_laws.specs.Fields.{AreAlikeIn}
use Rattle.field_laws.proofs.Lists.{HasLists, AreAmong, op_lists}
use Rattle.field_laws.proofs.Alike.{mapped_alike}

-- Of what is done over a grid that part is kept which is at one field, at each point.
same_grid : {X : Type 0} (h : X → X) (P Q : X → Bool) (does : ℕ × ℕ → List X) (f g : ℕ) (points fields : List ℕ) → Apart fields
    → is_in fields f ≡ is_in fields g
    → ((x k : ℕ) → filter P (does (x, k)) ≡ cond (is_in (f ∷ []) k) (does (x, k)) [])
    → ((x k : ℕ) → filter Q (does (x, k)) ≡ cond (is_in (g ∷ []) k) (does (x, k)) [])
    → ((x : ℕ) → map h (does (x, f)) ≡ does (x, g))
    → Same h P Q (flat_map does (grid points fields))
same_grid h P Q does f g points fields apart both at_f at_g moved =
    subst (Same h P Q) (sym (flat_grid does points fields)) (same_flat h P Q (λ x. flat_map (λ k. does (x, k)) fields) points (λ x _.
    ap (map h) (kept_row P (λ k. does (x, k)) f (at_f x) fields apart)
    ∙ map_cond h (is_in fields f) (does (x, f)) ∙ ap₂ (λ b l. cond b l []) both (moved x)
    ∙ sym (kept_row Q (λ k. does (x, k)) g (at_g x) fields apart)))

module _ (t : Tables) (lists : List (List ℕ)) (has : HasLists t lists) (apart : (fields : List ℕ) → Contains lists fields → Apart fields)
    (f g : ℕ) (alike : AreAlikeIn lists f g) where
  abbrev at_one : Move → Bool
  at_one = at_along ByField (f ∷ [])

  abbrev at_other : Move → Bool
  at_other = at_along ByField (g ∷ [])

  abbrev pub SameMoves : List Move → Type 0
  SameMoves ms = Same (move_to ByField g) at_one at_other ms

  pub cells_same : (does : Does) → ((fs : List ℕ) (r : Req) (c : Cell)
      → filter (at_along ByField fs) (does r c) ≡ cond (is_in fs c.field) (does r c) [])
      → ((k : ℕ) (r : Req) (c : Cell) → map (move_to ByField k) (does r c) ≡ does r (cell_to ByField k c))
      → (item : ℕ) → SameMoves (at_cells t does (reqs_of t item))
  cells_same does kept moved item = same_flat (move_to ByField g) at_one at_other _ (reqs_of t item) (λ r m.
      let listed = has.0 r (of_filter (λ (r : Req). r.item == item) t.reqs r m).0 in
      same_grid (move_to ByField g) at_one at_other (λ x. does r (mapped_cell t r x)) f g (points_in t r.space) r.fields
      (apart r.fields listed) (alike r.fields listed)
      (λ x k. kept (f ∷ []) r (mapped_cell t r (x, k))) (λ x k. kept (g ∷ []) r (mapped_cell t r (x, k)))
      (λ x. moved g r (mapped_cell t r (x, f))
      ∙ ap (λ inst. does r (cell_in (unwrap_or inst 0) (x, g))) (mapped_alike t lists has f g alike r)))

  each_same : (space : ℕ) (fields : List ℕ) → Contains lists fields → (does : ℕ × ℕ → Move)
      → ((x k : ℕ) → (target (does (x, k))).field ≡ k) → ((x : ℕ) → move_to ByField g (does (x, f)) ≡ does (x, g))
      → SameMoves (map does (grid (points_in t space) fields))
  each_same space fields listed does at moved = subst SameMoves (flat_map_single does (grid (points_in t space) fields))
      (same_grid (move_to ByField g) at_one at_other (λ x. does x ∷ []) f g (points_in t space) fields (apart fields listed) (alike fields listed)
      (λ x k. ap (λ y. cond (is_in (f ∷ []) y) (does (x, k) ∷ []) []) (at x k))
      (λ x k. ap (λ y. cond (is_in (g ∷ []) y) (does (x, k) ∷ []) []) (at x k)) (λ x. ap (λ m. m ∷ []) (moved x)))

  pub reads_same : (item : ℕ) → SameMoves (at_cells t (λ r c. reads_by (id_of t item) r.number r.access c) (reqs_of t item))
  reads_same item = cells_same (λ r c. reads_by (id_of t item) r.number r.access c)
      (λ fs r c. reads_kept ByField fs (id_of t item) r.number r.access c)
      (λ k r c. reads_moved ByField k (id_of t item) r.number r.access c) item

  moves_same : (op : Op) → AreAmong lists (op_lists op) → SameMoves (moves_of t op)
  moves_same (operations.Run item) among = same_append (move_to ByField g) at_one at_other _ _ (reads_same item)
      (cells_same (λ r c. changes_by (id_of t item) r.number r.access c)
      (λ fs r c. changes_kept ByField fs (id_of t item) r.number r.access c)
      (λ k r c. changes_moved ByField k (id_of t item) r.number r.access c) item)
  moves_same (operations.Copy src dst space fields) among = each_same space fields (among fields (Contains-here []))
      (λ x. moves.Copy (cell_in src x) (cell_in dst x)) (λ x k. refl) (λ x. refl)
  moves_same (operations.Put inst space fields n) among = each_same space fields (among fields (Contains-here []))
      (λ x. moves.Put (cell_in inst x) n) (λ x k. refl) (λ x. refl)
  moves_same (operations.Reset inst space fields) among = each_same space fields (among fields (Contains-here []))
      (λ x. moves.Reset (cell_in inst x)) (λ x k. refl) (λ x. refl)
  moves_same (operations.Fold src dst space fields) among = each_same space fields (among fields (Contains-here []))
      (λ x. moves.Fold (operator_of t src) (cell_in src x) (cell_in dst x)) (λ x k. refl) (λ x. refl)
  moves_same operations.Merge among = refl

  moves_at_same : (k : ℕ) → SameMoves (moves_at t k)
  moves_at_same k = elim (cases_option (slice_get t.nodes k)) [
    | inl none ↦ rw none refl
    | inr some ↦ rw some.1 (moves_same some.0.op (has.4 some.0 (contains_at t.nodes k some.0 some.1)))
  ]

  abbrev pub SameSteps : List Step → Type 0
  SameSteps xs = Same (step_to ByField g) (is_along ByField (f ∷ [])) (is_along ByField (g ∷ [])) xs

  pub steps_at_same : (k : ℕ) → SameSteps (steps_at t k)
  steps_at_same k = same_map (step_to ByField g) (is_along ByField (f ∷ [])) (is_along ByField (g ∷ [])) (move_to ByField g) (λ m. record { node = k; move = m }) (λ m. refl)
      (moves_at t k) (moves_at_same k)

  pub steps_same : (nodes : List ℕ) → SameSteps (steps_by t nodes)
  steps_same nodes = same_flat (step_to ByField g) (is_along ByField (f ∷ [])) (is_along ByField (g ∷ [])) (steps_at t) nodes (λ k _. steps_at_same k)
