-- What is done, read and raced for at some points is what the tables that are cut to these points say.
use Rattle.std.proofs.Common.{◌≡◌, ℕ, inl, inr, ◌↔◌, true, cond, ◌&&◌, ◌==◌, List, [], ◌∷◌, ◌++◌, map, filter, flat_map, refl, sym, ap, ap₂, ◌∙◌, subst, Option, Some, None, find, slice_get, take, Contains, length, if◌then◌else◌}
use Rattle.std.specs.List.{range_with_len}
use Rattle.std.specs.Option.{option_or, option_map_or}
use Rattle.std.proofs.Math.Path.{fun_ext}
use Rattle.std.proofs.lemmas.Bool.{cases_Bool}
use Rattle.std.proofs.lemmas.List.Concat.{flat_map_single}
use Rattle.std.proofs.lemmas.List.Elements.{filter-append}
use Rattle.list_lemmas.proofs.lemmas.Contained.{Contains-here, Contains-later}
use Rattle.value_terms.specs.declared.terms.Base.TheVariants.{Init}
use Rattle.vocabulary.specs.Prelude.{Value, plain, same_value, Cell, Place, Move, Item, Req, Op, Tables, Space, place_of, is_in, points_in, covers, uses_of, reqs_of, grid, req_grid, after_items, after_uses, wanted, changed, Step, id_of, inst_at, cell_in, mapped_cell, operator_of, reads_by, changes_by, at_cells, moves_of, steps_by, steps, State, start, effect, graph_of, req_at, difference, first_difference, shown_difference, access, Race}
use Rattle.semantics.specs.declared.moves.Move.TheVariants as moves
use Rattle.semantics.specs.declared.tables.Op.TheVariants as operations
use Rattle.semantics.specs.SerialOrder.{serial, serial_place}
use Rattle.semantics.specs.ReplayOrder.{replay_order}
use Rattle.log_laws.proofs.lemmas.Members.{member_in, is_in_of}
use Rattle.log_laws.proofs.lemmas.StepLists.{steps_at}
use Rattle.list_lemmas.proofs.lemmas.Filtered.{of_filter, in_filter}
use Rattle.list_lemmas.proofs.lemmas.Firsts.{cases_option}
use Rattle.list_lemmas.proofs.lemmas.Parts.{filter_map_of, filter_flat}
use Rattle.point_laws.specs.Axes.{ByPoint}
use Rattle.point_laws.specs.Alike.{HasPointsInOrder, AreReadFirsts, target, is_at}
use Rattle.point_laws.specs.Cut.{cut, cut_space, kept, cut_to}
use Rattle.point_laws.proofs.lemmas.Rows.{kept_grid, filter_in}
use Rattle.point_laws.proofs.Moves.{steps_stay}
use Rattle.point_laws.proofs.lemmas.TaskMoves.{Does, at_along, reads_kept, changes_kept}
use Rattle.point_laws.proofs.lemmas.Effects.{Agree, Stay, kept_agree}
use Rattle.point_laws.proofs.lemmas.Differences.{difference_agrees}
use Rattle.point_laws.proofs.lemmas.Firsts.{shown_at_first}
use Rattle.point_laws.proofs.lemmas.Accesses.{touched_point, both_touched}
use Rattle.point_laws.proofs.lemmas.Raced.{is_step}

-- ---- the points of cut tables

found_cut : (ps : List ℕ) (id : ℕ) (spaces : List Space)
    → option_map_or (λ (s : Space). s.points) (find (λ (s : Space). s.id == id) (map (cut_space ps) spaces)) []
    ≡ filter (is_in ps) (option_map_or (λ (s : Space). s.points) (find (λ (s : Space). s.id == id) spaces) [])
found_cut ps id [] = refl
found_cut ps id (s ∷ spaces) = elim (cases_Bool (s.id == id)) [ inl here ↦ rw here refl | inr other ↦ rw other (found_cut ps id spaces) ]

pub points_cut : (ps : List ℕ) (t : Tables) (id : ℕ) → points_in (cut ps t) id ≡ filter (is_in ps) (points_in t id)
points_cut ps t id = found_cut ps id t.spaces

pub points_cut_to : (listed : Option (List ℕ)) (t : Tables) (id : ℕ) → points_in (cut_to listed t) id ≡ kept listed (points_in t id)
points_cut_to (Some ps) t id = points_cut ps t id
points_cut_to None t id = refl

pub kept_nothing : (listed : Option (List ℕ)) → kept listed [] ≡ []
kept_nothing (Some ps) = refl
kept_nothing None = refl

pub in_both : (ps xs : List ℕ) (q : ℕ) → Contains (filter (is_in ps) xs) q → Contains xs q × Contains ps q
in_both ps xs q h = let m = of_filter (is_in ps) xs q h in (m.0, member_in ps q m.1)

pub in_kept : (ps xs : List ℕ) (q : ℕ) → Contains xs q → Contains ps q → Contains (filter (is_in ps) xs) q
in_kept ps xs q here there = in_filter (is_in ps) xs q here (is_in_of ps q there)

in_cut : (ps : List ℕ) (t : Tables) (p : ℕ) → is_in ps p ≡ true → (id : ℕ) → is_in (points_in (cut ps t) id) p ≡ is_in (points_in t id) p
in_cut ps t p at id = ap (λ ns. is_in ns p) (points_cut ps t id) ∙ filter_in (is_in ps) p at (points_in t id)

-- ---- the steps of cut tables

module _ (ps : List ℕ) (t : Tables) where
  cells_cut : (does : Does) → ((r : Req) (c : Cell) → filter (at_along ByPoint ps) (does r c) ≡ cond (is_in ps c.point) (does r c) [])
      → (rs : List Req) → at_cells (cut ps t) does rs ≡ filter (at_along ByPoint ps) (at_cells t does rs)
  cells_cut does kept rs =
      let part : Req → List Move = λ r. flat_map (λ x. does r (mapped_cell t r x)) (req_grid t r) in
      let one : (r : Req) → flat_map (λ x. does r (mapped_cell t r x)) (req_grid (cut ps t) r) ≡ filter (at_along ByPoint ps) (part r) = λ r.
      ap (λ points. flat_map (λ x. does r (mapped_cell t r x)) (grid points r.fields)) (points_cut ps t r.space)
      ∙ sym (kept_grid (at_along ByPoint ps) (is_in ps) (λ x. does r (mapped_cell t r x)) (λ x f. kept r (mapped_cell t r (x, f)))
      (points_in t r.space) r.fields) in
      ap (λ g. flat_map g rs) (fun_ext one) ∙ sym (filter_flat (at_along ByPoint ps) part rs)

  each_cut : (space : ℕ) (fields : List ℕ) (does : ℕ × ℕ → Move) → ((x f : ℕ) → (target (does (x, f))).point ≡ x)
      → map does (grid (points_in (cut ps t) space) fields) ≡ filter (at_along ByPoint ps) (map does (grid (points_in t space) fields))
  each_cut space fields does at =
      ap (λ points. map does (grid points fields)) (points_cut ps t space)
      ∙ sym (flat_map_single does (grid (filter (is_in ps) (points_in t space)) fields))
      ∙ sym (kept_grid (at_along ByPoint ps) (is_in ps) (λ x. does x ∷ []) (λ x f. ap (λ y. cond (is_in ps y) (does (x, f) ∷ []) []) (at x f))
      (points_in t space) fields)
      ∙ ap (filter (at_along ByPoint ps)) (flat_map_single does (grid (points_in t space) fields))

  moves_cut : (op : Op) → moves_of (cut ps t) op ≡ filter (at_along ByPoint ps) (moves_of t op)
  moves_cut (operations.Run item) =
      ap₂ ◌++◌ (cells_cut (λ r c. reads_by (id_of t item) r.number r.access c) (λ r c. reads_kept ByPoint ps (id_of t item) r.number r.access c)
      (reqs_of t item))
      (cells_cut (λ r c. changes_by (id_of t item) r.number r.access c) (λ r c. changes_kept ByPoint ps (id_of t item) r.number r.access c)
      (reqs_of t item))
      ∙ sym (filter-append (at_along ByPoint ps) _ _)
  moves_cut (operations.Copy src dst space fields) = each_cut space fields (λ x. moves.Copy (cell_in src x) (cell_in dst x)) (λ x f. refl)
  moves_cut (operations.Put inst space fields n) = each_cut space fields (λ x. moves.Put (cell_in inst x) n) (λ x f. refl)
  moves_cut (operations.Reset inst space fields) = each_cut space fields (λ x. moves.Reset (cell_in inst x)) (λ x f. refl)
  moves_cut (operations.Fold src dst space fields) =
      each_cut space fields (λ x. moves.Fold (operator_of t src) (cell_in src x) (cell_in dst x)) (λ x f. refl)
  moves_cut operations.Merge = refl

  steps_at_cut : (k : ℕ) → steps_at (cut ps t) k ≡ filter (is_at ps) (steps_at t k)
  steps_at_cut k = elim (cases_option (slice_get t.nodes k)) [
    | inl none ↦ rw none refl
    | inr some ↦ rw some.1 (ap (map (λ m. record { node = k; move = m })) (moves_cut some.0.op)
        ∙ sym (filter_map_of (is_at ps) (λ m. record { node = k; move = m }) (moves_of t some.0.op)))
  ]

  pub steps_cut : (nodes : List ℕ) → steps_by (cut ps t) nodes ≡ filter (is_at ps) (steps_by t nodes)
  steps_cut nodes = ap (λ g. flat_map g nodes) (fun_ext steps_at_cut) ∙ sym (filter_flat (is_at ps) (steps_at t) nodes)

  -- ---- the values of cut tables

  pub start_cut : (c : Cell) → is_in ps c.point ≡ true → start (cut ps t) c ≡ start t c
  start_cut c at = elim (cases_option (inst_at t c.inst)) [
    | inl none ↦ rw none refl
    | inr some ↦ rw (some.1, in_cut ps t c.point at some.0.space) refl
  ]

  uses_cut : (i : Item) (rs : List Req) (p : Place) (v : Value) → is_in ps p.point ≡ true
      → after_uses (cut ps t) i rs p v ≡ after_uses t i rs p v
  uses_cut i [] p v at = refl
  uses_cut i (r ∷ rs) p v at =
      ap (λ b. after_uses (cut ps t) i rs p (if (r.tree == p.tree) && (b && is_in r.fields p.field) then changed i r v else v))
      (in_cut ps t p.point at r.space)
      ∙ uses_cut i rs p (if covers t p r then changed i r v else v) at

  one_cut : (o : Option Item) (rs : List Req) (p : Place) (v : Value) → is_in ps p.point ≡ true
      → option_map_or (λ i. after_uses (cut ps t) i rs p v) o v ≡ option_map_or (λ i. after_uses t i rs p v) o v
  one_cut None rs p v at = refl
  one_cut (Some i) rs p v at = uses_cut i rs p v at

  pub items_cut : (items : List ℕ) (p : Place) (v : Value) → is_in ps p.point ≡ true
      → after_items (cut ps t) items p v ≡ after_items t items p v
  items_cut [] p v at = refl
  items_cut (item ∷ items) p v at = ap (after_items (cut ps t) items p) (one_cut (slice_get t.items item) (uses_of t item) p v at)
      ∙ items_cut items p _ at

  pub wanted_cut : (item : ℕ) (p : Place) → is_in ps p.point ≡ true → wanted (cut ps t) item p ≡ wanted t item p
  wanted_cut item p at = items_cut (take (serial_place t item) (serial t)) p (plain Init) at

  -- ---- the first difference

  difference_cut : (m : Move) (s : State) → is_in ps (target m).point ≡ true → difference (cut ps t) m s ≡ difference t m s
  difference_cut (moves.Read task number c) s at =
      let tree = option_map_or (λ (r : Req). r.tree) (req_at t (place_of t.items task) number) 0 in
      ap (λ w. if same_value (s c) w then None else Some
      (record { task = task; number = number; point = c.point; field = c.field; got = s c }))
      (wanted_cut (place_of t.items task) (record { tree = tree; point = c.point; field = c.field }) at)
  difference_cut _ s at = refl

  differences_cut : (xs : List Step) → Stay ByPoint xs → ((x : Step) → Contains xs x → is_at ps x ≡ true) → (r s : State) → Agree ByPoint ps r s
      → first_difference (cut ps t) xs r ≡ first_difference t xs s
  differences_cut [] stay at r s agree = refl
  differences_cut (x ∷ xs) stay at r s agree =
      let here = at x (Contains-here xs) in
      ap₂ option_or (difference_cut x.move r here ∙ difference_agrees ByPoint t ps x.move r s here agree)
      (differences_cut xs (λ y m. stay y (Contains-later xs m)) (λ y m. at y (Contains-later xs m)) (effect x.move r) (effect x.move s)
      (kept_agree ByPoint ps x.move (stay x (Contains-here xs)) here r s agree))

  pub shown_cut : (nodes : List ℕ) → first_difference (cut ps t) (steps_by (cut ps t) nodes) (start (cut ps t))
      ≡ first_difference t (filter (is_at ps) (steps_by t nodes)) (start t)
  shown_cut nodes =
      let xs = filter (is_at ps) (steps_by t nodes) in
      ap (λ xs. first_difference (cut ps t) xs (start (cut ps t))) (steps_cut nodes)
      ∙ differences_cut xs (λ x m. steps_stay t nodes x (of_filter (is_at ps) (steps_by t nodes) x m).0)
      (λ x m. (of_filter (is_at ps) (steps_by t nodes) x m).1) (start (cut ps t)) (start t) start_cut

-- Tables that are cut to the first points that are read show the differing read of the whole.
pub shown_whole : (t : Tables) → HasPointsInOrder t → (firsts : List ℕ) → AreReadFirsts t firsts
    → shown_difference (cut firsts t) ≡ shown_difference t
shown_whole t order firsts are_firsts = let nodes = replay_order (graph_of t.nodes) in
    shown_cut firsts t nodes ∙ shown_at_first t order firsts are_firsts nodes

-- ---- races

module _ (ps : List ℕ) (t : Tables) (a b : ℕ) (cell : Cell) where
  step_in_cut : (x : Step) → Contains (steps (cut ps t)) x → Contains (steps t) x × (is_at ps x ≡ true)
  step_in_cut x c = of_filter (is_at ps) (steps t) x
      (subst (λ xs. Contains xs x) (steps_cut ps t (range_with_len 0 (length t.nodes))) c)

  cut_has_step : (x : Step) → Contains (steps t) x → is_at ps x ≡ true → Contains (steps (cut ps t)) x
  cut_has_step x c at = (subst (λ xs. Contains xs x) (sym (steps_cut ps t (range_with_len 0 (length t.nodes))))
      (in_filter (is_at ps) (steps t) x c at))

  of_cut : Race (cut ps t) a b cell → (is_in ps cell.point ≡ true) × Race t a b cell
  of_cut r =
      let one = step_in_cut (record { node = a; move = r.one }) r.one_in in
      let other = step_in_cut (record { node = b; move = r.other }) r.other_in in
      let stays = (is_step t (range_with_len 0 (length t.nodes)) _ one.0).stays in (
        ap (is_in ps) (touched_point ByPoint r.one cell stays (both_touched (access r.one cell) (access r.other cell) r.conflict).0) ∙ one.1,
        record {
          differ = r.differ;
          one = r.one;
          other = r.other;
          one_in = one.0;
          other_in =
              other.0;
          conflict = r.conflict;
          not_before = r.not_before;
          not_after = r.not_after;
        },
      )

  in_cut_too : (is_in ps cell.point ≡ true) × Race t a b cell → Race (cut ps t) a b cell
  in_cut_too (at, r) =
      let ks = range_with_len 0 (length t.nodes) in
      let touched = both_touched (access r.one cell) (access r.other cell) r.conflict in
      let first = touched_point ByPoint r.one cell (is_step t ks (record { node = a; move = r.one })
      r.one_in).stays touched.0 in
      let second = touched_point ByPoint r.other cell (is_step t ks (record { node = b; move = r.other })
      r.other_in).stays touched.1 in
      record {
        differ = r.differ;
        one = r.one;
        other = r.other;
        one_in = cut_has_step _ r.one_in (ap (is_in ps) (sym first) ∙ at);
        other_in = cut_has_step _ r.other_in (ap (is_in ps) (sym second) ∙ at);
        conflict = r.conflict;
        not_before = r.not_before;
        not_after = r.not_after;
      }

  pub race_cut : Race (cut ps t) a b cell ↔ ((is_in ps cell.point ≡ true) × Race t a b cell)
  race_cut = (of_cut, in_cut_too)
