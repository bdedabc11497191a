-- What is done and read at some fields is what the tables that are cut to these fields say.
use Rattle.std.proofs.Common.{◌≡◌, ℕ, inl, inr, Bool, true, cond, ◌&&◌, ◌==◌, List, [], ◌∷◌, ◌++◌, map, filter, flat_map, refl, sym, ap, ap₂, ◌∙◌, option_map, unwrap_or, position, find, slice_get, take, Contains, length, if◌then◌else◌}
use Rattle.std.specs.List.{range_with_len}
use Rattle.std.specs.Option.{option_or, option_map_or}
use Rattle.std.proofs.Math.Path.{fun_ext}
use Rattle.std.proofs.lemmas.Bool.{cases_Bool}
use Rattle.std.proofs.lemmas.List.{length-map}
use Rattle.std.proofs.lemmas.List.Concat.{flat_map_single}
use Rattle.std.proofs.lemmas.List.Elements.{filter-append}
use Rattle.std.proofs.lemmas.List.Folds.{flat_map-map}
use Rattle.std.proofs.lemmas.Option.{slice_get-map}
use Rattle.std.proofs.lemmas.Simd.{map-map}
use Rattle.value_terms.specs.declared.terms.Base.TheVariants.{Init}
use Rattle.semantics.specs.declared.moves.Move.TheVariants as moves
use Rattle.semantics.specs.declared.tables.ItemBody.TheVariants as bodies
use Rattle.semantics.specs.declared.tables.Op.TheVariants as operations
use Rattle.semantics.specs.SerialOrder.{listed, serial, serial_place}
use Rattle.vocabulary.specs.Prelude.{Value, plain, Priv, Cell, Place, Move, Item, ItemBody, Req, Inst, Map, Op, LogNode, Tables, place_of, is_in, points_in, covers, uses_of_item, reqs_of, grid, req_grid, after_items, after_uses, wanted, changed, Step, id_of, inst_at, operator_of, cell_in, mapped, mapped_cell, reads_by, changes_by, at_cells, moves_of, steps_by, State, start, effect, graph_of, req_at, Seen, difference, first_difference, want_of}
use Rattle.log_laws.proofs.lemmas.StepLists.{steps_at}
use Rattle.list_lemmas.proofs.lemmas.Contained.{Contains-here, Contains-later}
use Rattle.list_lemmas.proofs.lemmas.Filtered.{of_filter}
use Rattle.list_lemmas.proofs.lemmas.Firsts.{cases_option}
use Rattle.list_lemmas.proofs.lemmas.Parts.{filter_map_of, filter_flat}
use Rattle.list_lemmas.proofs.lemmas.Places.{find_map}
use Rattle.point_laws.specs.Axes.{ByField, target, is_along}
use Rattle.point_laws.proofs.lemmas.Rows.{filter_in, flat_grid}
use Rattle.point_laws.proofs.lemmas.TaskMoves.{at_along, reads_kept, changes_kept}
use Rattle.point_laws.proofs.lemmas.Effects.{Agree, Stay, kept_agree}
use Rattle.point_laws.proofs.lemmas.Differences.{difference_agrees}
use Rattle.field_laws.proofs.CutTables.{cut_item, cut_req, cut_inst, cut_map, cut_op, cut_node, cut_fields}
use Rattle.field_laws.proofs.Tabled.{place_cut}
use Rattle.field_laws.proofs.Staying.{steps_stay}

-- ---- lists that are cut

-- What is kept of a row is the row over the numbers that are kept, made in any way that is the same there.
cut_row : {X : Type 0} (P : X → Bool) (keep : ℕ → Bool) (row whole : ℕ → List X)
    → ((n : ℕ) → filter P (whole n) ≡ cond (keep n) (whole n) []) → ((n : ℕ) → keep n ≡ true → row n ≡ whole n) → (ns : List ℕ)
    → flat_map row (filter keep ns) ≡ filter P (flat_map whole ns)
cut_row P keep row whole each same [] = refl
cut_row P keep row whole each same (n ∷ ns) = elim (cases_Bool (keep n)) [
  | inl kept ↦ rw kept (ap₂ ◌++◌ (same n kept ∙ ap (λ b. cond b (whole n) []) (sym kept) ∙ sym (each n))
      (cut_row P keep row whole each same ns))
      ∙ sym (filter-append P (whole n) (flat_map whole ns))
  | inr left ↦ rw left (cut_row P keep row whole each same ns)
      ∙ ap (λ xs. xs ++ filter P (flat_map whole ns)) (ap (λ b. cond b (whole n) []) (sym left) ∙ sym (each n))
      ∙ sym (filter-append P (whole n) (flat_map whole ns))
]

-- The same of a grid, whose rows are at one point each.
cut_grid : {X : Type 0} (P : X → Bool) (keep : ℕ → Bool) (does whole : ℕ × ℕ → List X)
    → ((x n : ℕ) → filter P (whole (x, n)) ≡ cond (keep n) (whole (x, n)) []) → ((x n : ℕ) → keep n ≡ true → does (x, n) ≡ whole (x, n))
    → (points fields : List ℕ) → flat_map does (grid points (filter keep fields)) ≡ filter P (flat_map whole (grid points fields))
cut_grid P keep does whole each same points fields =
    flat_grid does points (filter keep fields)
    ∙ ap (λ row. flat_map row points) (fun_ext (λ x. cut_row P keep (λ n. does (x, n)) (λ n. whole (x, n)) (each x) (same x) fields))
    ∙ sym (filter_flat P (λ x. flat_map (λ n. whole (x, n)) fields) points)
    ∙ ap (filter P) (sym (flat_grid whole points fields))

module _ (fs : List ℕ) (t : Tables) where
  -- ---- what is looked up in cut tables

  -- The graph of the nodes is as it was.
  pub graph_cut : graph_of (cut_fields fs t).nodes ≡ graph_of t.nodes
  graph_cut = map-map (λ (n : LogNode). record { done = n.done; waits = n.waits }) (cut_node fs) t.nodes

  -- The requirements of an item are cut, and its id is as it was.
  reqs_cut : (item : ℕ) → reqs_of (cut_fields fs t) item ≡ map (cut_req fs) (reqs_of t item)
  reqs_cut item = filter_map_of (λ (r : Req). r.item == item) (cut_req fs) t.reqs

  id_cut : (item : ℕ) → id_of (cut_fields fs t) item ≡ id_of t item
  id_cut item = rw (slice_get-map (cut_item fs) t.items item) (elim (cases_option (slice_get t.items item)) [
    | inl none ↦ rw none refl
    | inr some ↦ rw some.1 refl
  ])

  -- An instance is cut, and the operator of a reduction instance is as it was.
  inst_cut : (id : ℕ) → inst_at (cut_fields fs t) id ≡ option_map (cut_inst fs) (inst_at t id)
  inst_cut id = find_map (λ (i : Inst). i.id == id) (cut_inst fs) t.insts

  operator_cut : (inst : ℕ) → operator_of (cut_fields fs t) inst ≡ operator_of t inst
  operator_cut inst = rw (inst_cut inst) (elim (cases_option (inst_at t inst)) [ inl none ↦ rw none refl | inr some ↦ rw some.1 refl ])

  -- A field that is kept is mapped to the same instance.
  mapped_cut : (r : Req) (f : ℕ) → is_in fs f ≡ true → mapped (cut_fields fs t) (cut_req fs r) f ≡ mapped t r f
  mapped_cut r f kept =
      let test : Map → Bool = λ m. (m.item == r.item) && ((m.number == r.number) && is_in m.fields f) in
      let cut_test : (m : Map) → test (cut_map fs m) ≡ test m = λ m.
      ap (λ b. (m.item == r.item) && ((m.number == r.number) && b)) (filter_in (is_in fs) f kept m.fields) in
      ap (option_map (λ (m : Map). m.inst))
      (find_map test (cut_map fs) t.maps ∙ ap (λ test. option_map (cut_map fs) (find test t.maps)) (fun_ext cut_test))
      ∙ elim (cases_option (find test t.maps)) [ inl none ↦ rw none refl | inr some ↦ rw some.1 refl ]

  -- ---- the steps of cut tables

  -- What a task does at each cell of its requirements.
  cells_cut : (does : ℕ → Priv → Cell → List Move)
      → ((number : ℕ) (p : Priv) (c : Cell) → filter (at_along ByField fs) (does number p c) ≡ cond (is_in fs c.field) (does number p c) [])
      → (item : ℕ) → at_cells (cut_fields fs t) (λ r c. does r.number r.access c) (reqs_of (cut_fields fs t) item)
      ≡ filter (at_along ByField fs) (at_cells t (λ r c. does r.number r.access c) (reqs_of t item))
  cells_cut does kept item =
      let part : Req → List Move = λ r. flat_map (λ x. does r.number r.access (mapped_cell t r x)) (req_grid t r) in
      let cut_part : Req → List Move = λ r.
      flat_map (λ x. does r.number r.access (mapped_cell (cut_fields fs t) r x)) (req_grid (cut_fields fs t) r) in
      let one : (r : Req) → cut_part (cut_req fs r) ≡ filter (at_along ByField fs) (part r) = λ r.
      cut_grid (at_along ByField fs) (is_in fs) (λ x. does r.number r.access (mapped_cell (cut_fields fs t) (cut_req fs r) x))
      (λ x. does r.number r.access (mapped_cell t r x)) (λ x f. kept r.number r.access (mapped_cell t r (x, f)))
      (λ x f at. ap (λ o. does r.number r.access (cell_in (unwrap_or o 0) (x, f))) (mapped_cut r f at)) (points_in t r.space) r.fields in
      ap (flat_map cut_part) (reqs_cut item) ∙ flat_map-map cut_part (cut_req fs) (reqs_of t item)
      ∙ ap (λ g. flat_map g (reqs_of t item)) (fun_ext one) ∙ sym (filter_flat (at_along ByField fs) part (reqs_of t item))

  -- What an operation on data does at each point and field.
  each_cut : (space : ℕ) (fields : List ℕ) (does : ℕ × ℕ → Move) → ((x f : ℕ) → (target (does (x, f))).field ≡ f)
      → map does (grid (points_in t space) (filter (is_in fs) fields))
      ≡ filter (at_along ByField fs) (map does (grid (points_in t space) fields))
  each_cut space fields does at =
      sym (flat_map_single does (grid (points_in t space) (filter (is_in fs) fields)))
      ∙ cut_grid (at_along ByField fs) (is_in fs) (λ x. does x ∷ []) (λ x. does x ∷ [])
      (λ x f. ap (λ n. cond (is_in fs n) (does (x, f) ∷ []) []) (at x f)) (λ x f kept. refl) (points_in t space) fields
      ∙ ap (filter (at_along ByField fs)) (flat_map_single does (grid (points_in t space) fields))

  moves_cut : (op : Op) → moves_of (cut_fields fs t) (cut_op fs op) ≡ filter (at_along ByField fs) (moves_of t op)
  moves_cut (operations.Run item) = rw (id_cut item) (
      ap₂ ◌++◌ (cells_cut (reads_by (id_of t item)) (reads_kept ByField fs (id_of t item)) item)
      (cells_cut (changes_by (id_of t item)) (changes_kept ByField fs (id_of t item)) item)
      ∙ sym (filter-append (at_along ByField fs) _ _))
  moves_cut (operations.Copy src dst space fields) = each_cut space fields (λ x. moves.Copy (cell_in src x) (cell_in dst x)) (λ x f. refl)
  moves_cut (operations.Put inst space fields n) = each_cut space fields (λ x. moves.Put (cell_in inst x) n) (λ x f. refl)
  moves_cut (operations.Reset inst space fields) = each_cut space fields (λ x. moves.Reset (cell_in inst x)) (λ x f. refl)
  moves_cut (operations.Fold src dst space fields) =
      ap (λ op. map (λ x. moves.Fold op (cell_in src x) (cell_in dst x)) (grid (points_in t space) (filter (is_in fs) fields)))
      (operator_cut src)
      ∙ each_cut space fields (λ x. moves.Fold (operator_of t src) (cell_in src x) (cell_in dst x)) (λ x f. refl)
  moves_cut operations.Merge = refl

  steps_at_cut : (k : ℕ) → steps_at (cut_fields fs t) k ≡ filter (is_along ByField fs) (steps_at t k)
  steps_at_cut k = rw (slice_get-map (cut_node fs) t.nodes k) (elim (cases_option (slice_get t.nodes k)) [
    | inl none ↦ rw none refl
    | inr some ↦ rw some.1 (ap (map (λ m. record { node = k; move = m })) (moves_cut some.0.op)
        ∙ sym (filter_map_of (is_along ByField fs) (λ m. record { node = k; move = m }) (moves_of t some.0.op)))
  ])

  pub steps_cut : (nodes : List ℕ) → steps_by (cut_fields fs t) nodes ≡ filter (is_along ByField fs) (steps_by t nodes)
  steps_cut nodes = ap (λ g. flat_map g nodes) (fun_ext steps_at_cut) ∙ sym (filter_flat (is_along ByField fs) (steps_at t) nodes)

  -- ---- the values of cut tables

  pub start_cut : (c : Cell) → is_in fs c.field ≡ true → start (cut_fields fs t) c ≡ start t c
  start_cut c at = rw (inst_cut c.inst) (elim (cases_option (inst_at t c.inst)) [
    | inl none ↦ rw none refl
    | inr some ↦ rw (some.1, filter_in (is_in fs) c.field at some.0.fields) refl
  ])

  -- The serial order is as it was.
  serial_cut : serial (cut_fields fs t) ≡ serial t
  serial_cut = ap₂ (λ n place. if length t.serials == 0 then range_with_len 0 n else map place (listed t))
      (length-map t.items (cut_item fs)) (fun_ext (place_cut fs t.items))

  -- What an item makes of a value by a use, and by all of its uses, is as it was at a field that is kept.
  changed_by : (id line : ℕ) (body : ItemBody) (r : Req) (v : Value)
      → changed (cut_item fs (record { id = id; line = line; body = body })) (cut_req fs r) v
      ≡ changed (record { id = id; line = line; body = body }) r v
  changed_by id line bodies.Task r v = refl
  changed_by id line (bodies.Fill tree space fields n) r v = refl

  uses_cut : (i : Item) (rs : List Req) (p : Place) (v : Value) → is_in fs p.field ≡ true
      → after_uses (cut_fields fs t) (cut_item fs i) (map (cut_req fs) rs) p v ≡ after_uses t i rs p v
  uses_cut i [] p v at = refl
  uses_cut i (r ∷ rs) p v at =
      ap₂ (λ b w. after_uses (cut_fields fs t) (cut_item fs i) (map (cut_req fs) rs) p
      (if (r.tree == p.tree) && (is_in (points_in t r.space) p.point && b) then w else v))
      (filter_in (is_in fs) p.field at r.fields) (changed_by i.id i.line i.body r v)
      ∙ uses_cut i rs p (if covers t p r then changed i r v else v) at

  -- The uses of an item are cut.
  uses_of_cut : (item id line : ℕ) (body : ItemBody)
      → uses_of_item (cut_fields fs t) item (cut_item fs (record { id = id; line = line; body = body }))
      ≡ map (cut_req fs) (uses_of_item t item (record { id = id; line = line; body = body }))
  uses_of_cut item id line bodies.Task = reqs_cut item
  uses_of_cut item id line (bodies.Fill tree space fields n) = refl

  item_cut : (item : ℕ) (p : Place) (v : Value) → is_in fs p.field ≡ true
      → after_items (cut_fields fs t) (item ∷ []) p v ≡ after_items t (item ∷ []) p v
  item_cut item p v at = rw (slice_get-map (cut_item fs) t.items item) (elim (cases_option (slice_get t.items item)) [
    | inl none ↦ rw none refl
    | inr some ↦ let i = some.0 in
        rw some.1 (ap (λ rs. after_uses (cut_fields fs t) (cut_item fs i) rs p v) (uses_of_cut item i.id i.line i.body)
        ∙ uses_cut i (uses_of_item t item i) p v at)
  ])

  items_cut : (items : List ℕ) (p : Place) (v : Value) → is_in fs p.field ≡ true
      → after_items (cut_fields fs t) items p v ≡ after_items t items p v
  items_cut [] p v at = refl
  items_cut (item ∷ items) p v at = ap (after_items (cut_fields fs t) items p) (item_cut item p v at)
      ∙ items_cut items p (after_items t (item ∷ []) p v) at

  pub wanted_cut : (item : ℕ) (p : Place) → is_in fs p.field ≡ true → wanted (cut_fields fs t) item p ≡ wanted t item p
  wanted_cut item p at =
      ap (λ order. after_items (cut_fields fs t) (take (unwrap_or (position (λ i. i == item) order) (length order)) order) p (plain Init))
      serial_cut
      ∙ items_cut (take (serial_place t item) (serial t)) p (plain Init) at

  -- ---- the first difference

  -- The tree of a requirement is as it was, so what a read there should see is too.
  tree_cut : (item number : ℕ) → option_map_or (λ (r : Req). r.tree) (req_at (cut_fields fs t) item number) 0
      ≡ option_map_or (λ (r : Req). r.tree) (req_at t item number) 0
  tree_cut item number = rw (find_map (λ (r : Req). (r.item == item) && (r.number == number)) (cut_req fs) t.reqs)
      (elim (cases_option (req_at t item number)) [ inl none ↦ rw none refl | inr some ↦ rw some.1 refl ])

  want_cut : (r : Seen) → is_in fs r.field ≡ true → want_of (cut_fields fs t) r ≡ want_of t r
  want_cut r at =
      let item = place_of t.items r.task in
      let want : ℕ → ℕ → Value = λ item tree. wanted (cut_fields fs t) item (record { tree = tree; point = r.point; field = r.field }) in
      ap (λ item. want item (option_map_or (λ (r : Req). r.tree) (req_at (cut_fields fs t) item r.number) 0)) (place_cut fs t.items r.task)
      ∙ ap (want item) (tree_cut item r.number)
      ∙ wanted_cut item (record {
        tree = option_map_or (λ (r : Req). r.tree) (req_at t item r.number) 0;
        point = r.point;
        field = r.field;
      }) at

  difference_cut : (m : Move) (s : State) → is_in fs (target m).field ≡ true → difference (cut_fields fs t) m s ≡ difference t m s
  difference_cut (moves.Read task number c) s at =
      let r : Seen = record { task = task; number = number; point = c.point; field = c.field; got = s c } in
      rw (want_cut r at) refl
  difference_cut _ s at = refl

  differences_cut : (xs : List Step) → Stay ByField xs → ((x : Step) → Contains xs x → is_along ByField fs x ≡ true) → (r s : State)
      → Agree ByField fs r s → first_difference (cut_fields fs t) xs r ≡ first_difference t xs s
  differences_cut [] stay at r s agree = refl
  differences_cut (x ∷ xs) stay at r s agree =
      let here = at x (Contains-here xs) in
      ap₂ option_or (difference_cut x.move r here ∙ difference_agrees ByField t fs x.move r s here agree)
      (differences_cut xs (λ y m. stay y (Contains-later xs m)) (λ y m. at y (Contains-later xs m)) (effect x.move r) (effect x.move s)
      (kept_agree ByField fs x.move (stay x (Contains-here xs)) here r s agree))

  pub shown_cut : (nodes : List ℕ) → first_difference (cut_fields fs t) (steps_by (cut_fields fs t) nodes) (start (cut_fields fs t))
      ≡ first_difference t (filter (is_along ByField fs) (steps_by t nodes)) (start t)
  shown_cut nodes =
      let xs = filter (is_along ByField fs) (steps_by t nodes) in
      ap (λ steps. first_difference (cut_fields fs t) steps (start (cut_fields fs t))) (steps_cut nodes)
      ∙ differences_cut xs (λ x m. steps_stay t nodes x (of_filter (is_along ByField fs) (steps_by t nodes) x m).0)
      (λ x m. (of_filter (is_along ByField fs) (steps_by t nodes) x m).1) (start (cut_fields fs t)) (start t) start_cut
