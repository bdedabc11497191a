-- The field of a step stands in a list, and the same step is taken at each field that no list tells apart from it.
use Rattle.std.proofs.Common.{◌≡◌, ℕ, ◌==◌, inl, inr, Bool, true, List, [], ◌∷◌, map, filter, refl, sym, ap, ◌∙◌, subst, Contains}
use Rattle.std.proofs.lemmas.List.Elements.{Contains-append_cases}
use Rattle.vocabulary.specs.Prelude.{Move, Req, Op, Tables, is_in, points_in, reqs_of, grid, Step, id_of, cell_in, mapped_cell, operator_of, reads_by, changes_by, at_cells, moves_of, steps_by}
use Rattle.semantics.specs.declared.moves.Move.TheVariants as moves
use Rattle.semantics.specs.declared.tables.Op.TheVariants as operations
use Rattle.log_laws.proofs.lemmas.Apart.{member_grid}
use Rattle.log_laws.proofs.lemmas.Members.{is_in_of}
use Rattle.log_laws.proofs.lemmas.StepLists.{of_node}
use Rattle.log_laws.proofs.lemmas.OwnConflicts.{is_of}
use Rattle.list_lemmas.proofs.lemmas.Contained.{member_map, map_member, Contains-here, Contains-nil}
use Rattle.list_lemmas.proofs.lemmas.Filtered.{in_filter, of_filter}
use Rattle.list_lemmas.proofs.lemmas.Firsts.{contains_at}
use Rattle.list_lemmas.proofs.lemmas.Pairs.{Apart}
use Rattle.point_laws.specs.Axes.{ByField, step_to, target, StaysAlong, is_along}
use Rattle.point_laws.proofs.lemmas.TaskMoves.{Does, reads_at, changes_at}
use Rattle.field_laws.specs.Fields.{AreAlikeIn}
use Rattle.field_laws.proofs.Lists.{HasLists, AreAmong, op_lists}
use Rattle.field_laws.proofs.Same.{steps_same}
use Rattle.point_laws.proofs.lemmas.Rows.{Same}

-- Where what one test keeps, changed, is what another keeps, each that passes the one is there changed too.
pub moved_too : {X : Type 0} (h : X → X) (P Q : X → Bool) (xs : List X) → Same h P Q xs → (x : X) → Contains xs x → P x ≡ true
    → Contains xs (h x)
moved_too h P Q xs same x m e =
    (of_filter Q xs (h x) (subst (λ ys. Contains ys (h x)) same (map_member h (filter P xs) x (in_filter P xs x m e)))).0

-- A field of one of some lists.
abbrev pub IsListed : List (List ℕ) → ℕ → Type 0
IsListed lists f = (fields : List ℕ) × Contains lists fields × (is_in fields f ≡ true)

module _ (t : Tables) (lists : List (List ℕ)) (has : HasLists t lists) where
  pub cell_listed : (does : Does) → ((r : Req) → (m : Move) (c : _) → Contains (does r c) m → StaysAlong ByField m × (target m ≡ c))
      → (item : ℕ) (m : Move) → Contains (at_cells t does (reqs_of t item)) m → IsListed lists (target m).field
  cell_listed does at item m h =
      let x = is_of t (reqs_of t item) does m h in
      let in_grid = member_grid (points_in t x.req.space) x.req.fields x.at x.is_at in (
        x.req.fields,
        has.0 x.req (of_filter (λ (r : Req). r.item == item) t.reqs x.req x.is_req).0,
        ap (λ c. is_in x.req.fields c.field) (at x.req m (mapped_cell t x.req x.at) x.is_done).1 ∙ is_in_of x.req.fields x.at.1 in_grid.1,
      )

  each_listed : (space : ℕ) (fields : List ℕ) → Contains lists fields → (does : ℕ × ℕ → Move)
      → ((p : ℕ × ℕ) → (target (does p)).field ≡ p.1) → (m : Move) → Contains (map does (grid (points_in t space) fields)) m
      → IsListed lists (target m).field
  each_listed space fields listed does at m h =
      let p = member_map does (grid (points_in t space) fields) m h in
      let in_grid = member_grid (points_in t space) fields p.0 p.1 in
      (fields, listed, ap (is_in fields) (ap (λ m. (target m).field) p.2 ∙ at p.0) ∙ is_in_of fields p.0.1 in_grid.1)

  move_listed : (op : Op) → AreAmong lists (op_lists op) → (m : Move) → Contains (moves_of t op) m → IsListed lists (target m).field
  move_listed (operations.Run item) among m h =
      let reads : Does = λ r c. reads_by (id_of t item) r.number r.access c in
      let changes : Does = λ r c. changes_by (id_of t item) r.number r.access c in
      elim (Contains-append_cases (at_cells t reads (reqs_of t item)) (at_cells t changes (reqs_of t item)) m h) [
        | inl l ↦ cell_listed reads (λ r m c. reads_at ByField (id_of t item) r.number r.access c m) item m l
        | inr l ↦ cell_listed changes (λ r m c. changes_at ByField (id_of t item) r.number r.access c m) item m l
      ]
  move_listed (operations.Copy src dst space fields) among m h = each_listed space fields (among fields (Contains-here []))
      (λ p. moves.Copy (cell_in src p) (cell_in dst p)) (λ p. refl) m h
  move_listed (operations.Put inst space fields n) among m h = each_listed space fields (among fields (Contains-here []))
      (λ p. moves.Put (cell_in inst p) n) (λ p. refl) m h
  move_listed (operations.Reset inst space fields) among m h = each_listed space fields (among fields (Contains-here []))
      (λ p. moves.Reset (cell_in inst p)) (λ p. refl) m h
  move_listed (operations.Fold src dst space fields) among m h = each_listed space fields (among fields (Contains-here []))
      (λ p. moves.Fold (operator_of t src) (cell_in src p) (cell_in dst p)) (λ p. refl) m h
  move_listed operations.Merge among m h = absurd (Contains-nil h)

  pub step_listed : (nodes : List ℕ) (x : Step) → Contains (steps_by t nodes) x → IsListed lists (target x.move).field
  step_listed nodes x m =
      let at = of_node t nodes x m in
      move_listed at.node.op (has.4 at.node (contains_at t.nodes x.node at.node at.is_node)) x.move at.is_move

  pub step_moved : ((fields : List ℕ) → Contains lists fields → Apart fields) → (nodes : List ℕ) (x : Step) → Contains (steps_by t nodes) x
      → (f : ℕ) → AreAlikeIn lists f (target x.move).field → Contains (steps_by t nodes) (step_to ByField f x)
  step_moved apart nodes x m f alike =
      let q = (target x.move).field in
      moved_too (step_to ByField f) (is_along ByField (q ∷ [])) (is_along ByField (f ∷ [])) (steps_by t nodes)
      (steps_same t lists has apart q f (λ fields h. sym (alike fields h)) nodes) x m (is_in_of (q ∷ []) q (Contains-here []))
