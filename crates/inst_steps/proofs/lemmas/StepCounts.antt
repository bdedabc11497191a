-- The steps of a replay at one point and field are few.
use Rattle.std.proofs.Common.{◌≡◌, ◌≢◌, ℕ, suc, ◌+◌, ◌*◌, ◌≤◌, ◌<◌, ◌^◌, ◌==◌, ◌&&◌, ◌⊎◌, inl, inr, Bool, true, false, List, [], ◌∷◌, ◌++◌, filter, flat_map, length, slice_get, refl, sym, ap, ap₂, ◌∙◌, subst, arith, append-nil, append_assoc, Option, Some, None, Contains}
use Rattle.std.specs.List.{range_with_len}
use Rattle.std.specs.Option.{option_map_or}
use Rattle.std.proofs.lemmas.Bool.{cases_Bool, and_parts, eqb-true, eq-eqb, true≢false}
use Rattle.std.proofs.lemmas.List.{length-append, length-map}
use Rattle.std.proofs.lemmas.List.Elements.{filter-append, recursion_from_All, Contains-append_left, Contains-append_right, Contains-append_cases}
use Rattle.std.proofs.lemmas.List.Concat.{flat_map-append, flat_map_single}
use Rattle.vocabulary.specs.Prelude.{Priv, Record, Good, Cell, Move, Req, LogNode, Op, records_of, Tables, place_of, with_record, tables_of, graph_of, replay_steps, points_in, reqs_of, grid, req_grid, Step, mapped_cell, at_cells, reads_by, changes_by, run_moves, move_of, data_moves, moves_of, id_of}
use Rattle.privilege.specs.declared.kinds.Priv.TheVariants as privileges
use Rattle.spy_grammar.specs.declared.code.Code.TheVariants as codes
use Rattle.spy_grammar.specs.declared.record.Record.TheVariants as records
use Rattle.semantics.specs.declared.tables.Op.TheVariants as operations
use Rattle.semantics.specs.DataOps.{DataAct, Copies, Puts, Resets, Folds, DataOp, data_of}
use Rattle.semantics.specs.declared.command.Command.TheVariants.{Deps}
use Rattle.semantics.specs.ReplayOrder.{replay_order}
use Rattle.semantics.specs.Rules.{runs_item, is_run_again}
use Rattle.point_laws.specs.Alike.{HasPointsInOrder, is_at, target}
use Rattle.point_laws.specs.Cut.{cut_to}
use Rattle.point_laws.proofs.lemmas.Cuts.{steps_cut}
use Rattle.point_laws.proofs.lemmas.Order.{good_in_order, points_in_apart}
use Rattle.logs.specs.Faultless.{AreDeclared}
use Rattle.list_lemmas.proofs.lemmas.Contained.{each_more, member_flat, none_at, only, Contains-here, Contains-later, Contains-nil, Contains-cases}
use Rattle.list_lemmas.proofs.lemmas.Filtered.{of_filter}
use Rattle.list_lemmas.proofs.lemmas.Pairs.{Apart, AllPairs-append, apart_flat, apart_filter, AllPairs-first, AllPairs-rest, apart_none, apart_one}
use Rattle.list_lemmas.proofs.lemmas.Parts.{split_at, filter_map_of, filter_short, filter_flat}
use Rattle.list_lemmas.proofs.lemmas.Ranges.{number_in}
use Rattle.log_laws.proofs.lemmas.Apart.{fields_apart, grid_apart}
use Rattle.log_laws.proofs.lemmas.Rounds.{replay, once, listed_decides}
use Rattle.log_laws.proofs.lemmas.Consistent.{reqs_apart}
use Rattle.log_laws.proofs.lemmas.Admitted.{rule_kept, by_records, no_broken_rule, consistent}
use Rattle.log_laws.proofs.lemmas.StepLists.{moves_at, steps_at}
use Rattle.inst_steps.specs.Places.{is_cell_at, is_at_place}
use Rattle.inst_steps.proofs.Numbers.{few_entries}

-- ---- lists that are made part by part

flat_append : {X Y : Type 0} (g : X → List Y) (xs ys : List X)
    → length (flat_map g (xs ++ ys)) ≡ length (flat_map g xs) + length (flat_map g ys)
flat_append g xs ys = ap length (flat_map-append g xs ys) ∙ length-append (flat_map g xs) (flat_map g ys)

-- What different elements of a list give is no more than what the list gives.
flat_few : {X Y : Type 0} (g : X → List Y) (ks ns : List X) → Apart ks → ((x : X) → Contains ks x → Contains ns x)
    → length (flat_map g ks) ≤ length (flat_map g ns)
flat_few g [] ns h within = omega arith
flat_few g (k ∷ ks) ns h within =
    let s = split_at ns k (within k (Contains-here ks)) in
    let differ = AllPairs-first (λ x y. x ≢ y) k ks h in
    let rest = flat_few g ks (s.0 ++ s.1) (AllPairs-rest (λ x y. x ≢ y) k ks h)
    (λ x m. left s.0 k s.1 x (differ x m) (subst (λ ns. Contains ns x) s.2 (within x (Contains-later ks m)))) in
    let a = flat_append g s.0 s.1 in
    let b = flat_append g s.0 (k ∷ s.1) in
    let c = length-append (g k) (flat_map g s.1) in
    let d = length-append (g k) (flat_map g ks) in
    subst (λ ns. length (flat_map g (k ∷ ks)) ≤ length (flat_map g ns)) (sym s.2) (omega (arith, rest, a, b, c, d))
  where
    left : {X : Type 0} (front : List X) (k : X) (back : List X) (x : X) → k ≢ x → Contains (front ++ k ∷ back) x → Contains (front ++ back) x
    left front k back x differ m = elim (Contains-append_cases front (k ∷ back) x m) [
      | inl l ↦ Contains-append_left front back x l
      | inr r ↦ elim (Contains-cases back r) [ inl e ↦ absurd (differ (sym e)) | inr later ↦ Contains-append_right front back x later ]
    ]

-- Different elements of a list are no more than the list has.
fewer : {X : Type 0} (xs ys : List X) → Apart xs → ((x : X) → Contains xs x → Contains ys x) → length xs ≤ length ys
fewer xs ys h within = omega (arith, flat_few (λ x. x ∷ []) xs ys h within, singles xs, singles ys)
  where
    singles : {X : Type 0} (zs : List X) → length (flat_map (λ x. x ∷ []) zs) ≡ length zs
    singles zs = ap length (flat_map_single (λ x. x) zs) ∙ length-map zs (λ x. x)

-- Parts of no more than one element each have together no more than there are parts.
flat_ones : {X Y : Type 0} (g : X → List Y) (xs : List X) → ((x : X) → Contains xs x → length (g x) ≤ 1) → length (flat_map g xs) ≤ length xs
flat_ones g [] one = omega arith
flat_ones g (x ∷ xs) one =
    omega (arith, length-append (g x) (flat_map g xs), flat_ones g xs (λ y m. one y (Contains-later xs m)), one x (Contains-here xs))

flat_nothing : {X Y : Type 0} (g : X → List Y) (xs : List X) → ((x : X) → Contains xs x → g x ≡ []) → flat_map g xs ≡ []
flat_nothing g [] none = refl
flat_nothing g (x ∷ xs) none = ap₂ ◌++◌ (none x (Contains-here xs)) (flat_nothing g xs (λ y m. none y (Contains-later xs m)))

-- Of different parts only one has an element, and no more than one.
flat_one : {X Y : Type 0} (g : X → List Y) (key : X) → ((x : X) → (x ≡ key) ⊎ (g x ≡ [])) → ((x : X) → length (g x) ≤ 1) → (xs : List X)
    → Apart xs → length (flat_map g xs) ≤ 1
flat_one g key tells one [] h = omega arith
flat_one {X} g key tells one (x ∷ xs) h =
    let all = length-append (g x) (flat_map g xs) in
    elim (tells x) [
      | inl is ↦
          let none : (y : X) → Contains xs y → g y ≡ [] =
          λ y m. elim (tells y) [ inl same ↦ absurd (AllPairs-first (λ x y. x ≢ y) x xs h y m (is ∙ sym same)) | inr none ↦ none ] in
          omega (arith, all, one x, ap length (flat_nothing g xs none))
      | inr none ↦ omega (arith, all, ap length none, flat_one g key tells one xs (AllPairs-rest (λ x y. x ≢ y) x xs h))
    ]

-- What passes two tests is no more than what passes the one.
filter_both : {X : Type 0} (p q : X → Bool) (xs : List X) → length (filter p (filter q xs)) ≤ length (filter p xs)
filter_both p q [] = omega arith
filter_both p q (x ∷ xs) = elim (cases_Bool (q x)) [
  | inl kept ↦ elim (cases_Bool (p x)) [
    | inl here ↦ rw (kept, here) (omega (arith, filter_both p q xs))
    | inr away ↦ rw (kept, away) (filter_both p q xs)
  ]
  | inr left ↦ elim (cases_Bool (p x)) [
    | inl here ↦ rw (left, here) (omega (arith, filter_both p q xs))
    | inr away ↦ rw (left, away) (filter_both p q xs)
  ]
]

-- ---- the moves of a node at a point and a field

one_read : (task number : ℕ) (p : Priv) (c : Cell) → length (reads_by task number p c) ≤ 1
one_read task number privileges.Ro c = omega arith
one_read task number privileges.Rw c = omega arith
one_read task number _ c = omega arith

one_change : (task number : ℕ) (p : Priv) (c : Cell) → length (changes_by task number p c) ≤ 1
one_change task number privileges.Ro c = omega arith
one_change task number _ c = omega arith

abbrev data_fields : Option DataOp → List ℕ
data_fields o = option_map_or (λ (d : DataOp). d.fields) o []

-- No requirement and no operation has a field twice.
record HasFieldsApart (t : Tables) : Type 0 where
  reqs : (r : Req) → Contains t.reqs r → Apart r.fields
  nodes : (n : LogNode) → Contains t.nodes n → Apart (data_fields (data_of n.op))

abbrev runs_of : Op → List ℕ
runs_of (operations.Run item) = item ∷ []
runs_of _ = []

abbrev run_items : List LogNode → List ℕ
run_items ns = flat_map (λ (n : LogNode). runs_of n.op) ns

abbrev own_reqs : Tables → List ℕ → List Req
own_reqs t items = flat_map (reqs_of t) items

module _ (t : Tables) (order : HasPointsInOrder t) (fields : HasFieldsApart t) (point field : ℕ) where
  abbrev is_here : Cell → Bool
  is_here c = is_cell_at point field c

  abbrev here : List Move → List Move
  here ms = filter (λ m. is_here (target m)) ms

  none_read : (task number : ℕ) (p : Priv) (c : Cell) → is_here c ≡ false → here (reads_by task number p c) ≡ []
  none_read task number privileges.Ro c e = rw e refl
  none_read task number privileges.Rw c e = rw e refl
  none_read task number _ c e = refl

  none_change : (task number : ℕ) (p : Priv) (c : Cell) → is_here c ≡ false → here (changes_by task number p c) ≡ []
  none_change task number privileges.Ro c e = refl
  none_change task number _ c e = rw e refl

  -- Where no more than one move is done for each point and field, and it is there, no more than one is done here.
  one_here : (does : ℕ × ℕ → List Move) → ((p : ℕ × ℕ) → length (does p) ≤ 1)
      → ((p : ℕ × ℕ) → ((p.0 == point) && (p.1 == field)) ≡ false → here (does p) ≡ []) → (space : ℕ) (fields : List ℕ) → Apart fields
      → length (here (flat_map does (grid (points_in t space) fields))) ≤ 1
  one_here does one none space fields apart =
      let cells = grid (points_in t space) fields in
      subst (λ ms. length ms ≤ 1) (sym (filter_flat (λ m. is_here (target m)) does cells))
      (flat_one (λ p. here (does p)) (point, field) at (λ p. omega (arith, one p, filter_short (λ m. is_here (target m)) (does p))) cells
      (grid_apart (points_in t space) fields (points_in_apart t order space) apart))
    where
      at : (p : ℕ × ℕ) → (p ≡ (point, field)) ⊎ (here (does p) ≡ [])
      at p = elim (cases_Bool ((p.0 == point) && (p.1 == field))) [
        | inl is ↦
            let both = and_parts (p.0 == point) (p.1 == field) is in
            inl (ap₂ (λ x f. (x, f)) (eqb-true p.0 point both.0) (eqb-true p.1 field both.1))
        | inr other ↦ inr (none p other)
      ]

  cells_few : (does : Req → Cell → List Move) → ((r : Req) (c : Cell) → length (does r c) ≤ 1)
      → ((r : Req) (c : Cell) → is_here c ≡ false → here (does r c) ≡ []) → (rs : List Req) → ((x : Req) → Contains rs x → Contains t.reqs x)
      → length (here (at_cells t does rs)) ≤ length rs
  cells_few does one none rs within =
      let part : Req → List Move = λ r. flat_map (λ p. does r (mapped_cell t r p)) (req_grid t r) in
      subst (λ ms. length ms ≤ length rs) (sym (filter_flat (λ m. is_here (target m)) part rs))
      (flat_ones (λ r. here (part r)) rs (λ r m.
      one_here (λ p. does r (mapped_cell t r p)) (λ p. one r (mapped_cell t r p)) (λ p e. none r (mapped_cell t r p) e) r.space r.fields
      (fields.reqs r (within r m))))

  -- A task does no more than two moves here for each of its requirements.
  run_few : (task : ℕ) (rs : List Req) → ((x : Req) → Contains rs x → Contains t.reqs x) → length (here (run_moves t task rs)) ≤ 2 * length rs
  run_few task rs within =
      let reads : Req → Cell → List Move = λ r c. reads_by task r.number r.access c in
      let changes : Req → Cell → List Move = λ r c. changes_by task r.number r.access c in
      omega (
        arith,
        cells_few reads (λ r c. one_read task r.number r.access c) (λ r c e. none_read task r.number r.access c e) rs within,
        cells_few changes (λ r c. one_change task r.number r.access c) (λ r c e. none_change task r.number r.access c e) rs within,
        ap length (filter-append (λ m. is_here (target m)) (at_cells t reads rs) (at_cells t changes rs)),
        length-append (here (at_cells t reads rs)) (here (at_cells t changes rs)),
      )

  -- An operation on data does no more than one.
  data_few : (o : Option DataOp) → Apart (data_fields o) → length (here (data_moves t o)) ≤ 1
  data_few None apart = omega arith
  data_few (Some d) apart =
      subst (λ ms. length (here ms) ≤ 1) (flat_map_single (move_of t d.act) (grid (points_in t d.space) d.fields))
      (one_here (λ p. move_of t d.act p ∷ []) (λ p. omega arith) (λ p e. none_moved d.act p e) d.space d.fields apart)
    where
      none_moved : (act : DataAct) (p : ℕ × ℕ) → ((p.0 == point) && (p.1 == field)) ≡ false → here (move_of t act p ∷ []) ≡ []
      none_moved (Copies src dst) p e = rw e refl
      none_moved (Puts inst n) p e = rw e refl
      none_moved (Resets inst) p e = rw e refl
      none_moved (Folds src dst) p e = rw e refl

  node_few : (op : Op) → Apart (data_fields (data_of op)) → length (here (moves_of t op)) ≤ 2 * length (own_reqs t (runs_of op)) + 1
  node_few (operations.Run item) apart =
      omega (
        arith,
        run_few (id_of t item) (reqs_of t item) (λ r m. (of_filter (λ (r : Req). r.item == item) t.reqs r m).0),
        ap length (append-nil (reqs_of t item)),
      )
  node_few op apart = omega (arith, data_few (data_of op) apart)

  -- ---- the steps of all nodes here

  abbrev steps_here : ℕ → List Step
  steps_here k = filter (is_at_place point field) (steps_at t k)

  nodes_few : (first : ℕ) (ns : List LogNode) → ((k : ℕ) → slice_get t.nodes (first + k) ≡ slice_get ns k)
      → ((n : LogNode) → Contains ns n → Apart (data_fields (data_of n.op)))
      → length (flat_map steps_here (range_with_len first (length ns))) ≤ 2 * length (own_reqs t (run_items ns)) + length ns
  nodes_few first [] at apart = omega arith
  nodes_few first (n ∷ ns) at apart =
      let one : first + 0 ≡ first = omega arith in
      let moves : moves_at t first ≡ moves_of t n.op =
      ap (λ o. option_map_or (λ (n : LogNode). moves_of t n.op) o []) (ap (slice_get t.nodes) (sym one) ∙ at 0) in
      let step : Move → Step = λ m. record { node = first; move = m } in
      let own : length (steps_here first) ≡ length (here (moves_of t n.op)) =
      ap length (filter_map_of (is_at_place point field) step (moves_at t first)) ∙ length-map (here (moves_at t first)) step
      ∙ ap (λ ms. length (here ms)) moves in
      let rest = nodes_few (first + 1) ns (λ k. let far : first + 1 + k ≡ first + suc k = omega arith in
      ap (slice_get t.nodes) far ∙ at (suc k)) (λ m is. apart m (Contains-later ns is)) in
      omega (
        arith,
        own,
        rest,
        node_few n.op (apart n (Contains-here ns)),
        length-append (steps_here first) (flat_map steps_here (range_with_len (first + 1) (length ns))),
        ap length (flat_map-append (reqs_of t) (runs_of n.op) (run_items ns)),
        length-append (own_reqs t (runs_of n.op)) (own_reqs t (run_items ns)),
      )

-- ---- each item is run once

abbrev RunOnce : Tables → Type 0
RunOnce t = Apart (run_items t.nodes)

one_run : (op : Op) → Apart (runs_of op)
one_run (operations.Run item) = apart_one item
one_run _ = apart_none

is_run : (item : ℕ) (op : Op) → Contains (runs_of op) item → runs_item item op ≡ true
is_run item (operations.Run other) m = eq-eqb other item (sym (only m))
is_run item _ m = absurd (Contains-nil m)

not_run : (ns : List LogNode) (item : ℕ) → Contains (run_items ns) item → (n : LogNode) × Contains ns n × (runs_item item n.op ≡ true)
not_run ns item m = let at = member_flat (λ (n : LogNode). runs_of n.op) ns item m in (at.0, at.1, is_run item at.0.op at.2)

flat_more : {X Y : Type 0} (g : X → List Y) (xs : List X) (x : X) → flat_map g (xs ++ x ∷ []) ≡ flat_map g xs ++ g x
flat_more g [] x = append-nil (g x)
flat_more g (y ∷ xs) x = ap (λ zs. g y ++ zs) (flat_more g xs x) ∙ sym (append_assoc (g y) (flat_map g xs) (g x))

node_once : (ns : List LogNode) (n : LogNode) → ((i : ℕ) → Contains (runs_of n.op) i → Contains (run_items ns) i → ⊥) → Apart (run_items ns)
    → Apart (run_items (ns ++ n ∷ []))
node_once ns n new h = subst Apart (sym (flat_more (λ (n : LogNode). runs_of n.op) ns n))
    (AllPairs-append (λ x y. x ≢ y) (run_items ns) (runs_of n.op) h (one_run n.op) (λ x y a b e. new y b (subst (Contains (run_items ns)) e a)))

more_once : (t : Tables) (line : ℕ) (r : Record) → is_run_again t r ≡ false → RunOnce t → RunOnce (with_record t line r)
more_once t line (records.Run task done waits) e h = node_once t.nodes _ (λ i here there.
    let at = not_run t.nodes i there in
    true≢false (sym at.2 ∙ subst (λ i. runs_item i at.0.op ≡ false) (sym (only here))
    (none_at (λ (n : LogNode). runs_item (place_of t.items task) n.op) t.nodes at.0 e at.1))) h
more_once t line (records.Copy src dst space fields done waits) e h = node_once t.nodes _ (λ i here there. Contains-nil here) h
more_once t line (records.Put inst space fields n done waits) e h = node_once t.nodes _ (λ i here there. Contains-nil here) h
more_once t line (records.Reset inst space fields done waits) e h = node_once t.nodes _ (λ i here there. Contains-nil here) h
more_once t line (records.Fold src dst space fields done waits) e h = node_once t.nodes _ (λ i here there. Contains-nil here) h
more_once t line (records.Merge done waits) e h = node_once t.nodes _ (λ i here there. Contains-nil here) h
more_once t line _ e h = h

run_once : (t : Tables) → AreDeclared t → RunOnce t
run_once t d = subst RunOnce (sym d.tables) (by_records (λ r. Unit {0}) RunOnce (records_of d.log)
    (λ earlier l u _. more_once (tables_of earlier) l.line l.rec (rule_kept codes.TwoRuns refl u))
    [] d.log (recursion_from_All _ (records_of d.log) (λ k d lt. tt)) (no_broken_rule d.lines d.log d.faultless) apart_none)

-- ---- no field twice

with_good : (t : Tables) (line : ℕ) (r : Record) → Good r → HasFieldsApart t → HasFieldsApart (with_record t line r)
with_good t line (records.Req task tree space fields access atomic) good h =
    record { reqs = each_more (λ (r : Req). Apart r.fields) t.reqs _ h.reqs (fields_apart fields good.1.1.1.0); nodes = h.nodes }
with_good t line (records.Run task done waits) good h = record { reqs = h.reqs; nodes = each_more (λ (n : LogNode). Apart (data_fields (data_of n.op))) t.nodes _ h.nodes apart_none }
with_good t line (records.Copy src dst space fields done waits) good h =
    record { reqs = h.reqs; nodes = each_more (λ (n : LogNode). Apart (data_fields (data_of n.op))) t.nodes _ h.nodes (fields_apart fields good.1.1.1.0) }
with_good t line (records.Put inst space fields n done waits) good h =
    record { reqs = h.reqs; nodes = each_more (λ (n : LogNode). Apart (data_fields (data_of n.op))) t.nodes _ h.nodes (fields_apart fields good.1.1.0) }
with_good t line (records.Reset inst space fields done waits) good h =
    record { reqs = h.reqs; nodes = each_more (λ (n : LogNode). Apart (data_fields (data_of n.op))) t.nodes _ h.nodes (fields_apart fields good.1.1.0) }
with_good t line (records.Fold src dst space fields done waits) good h =
    record { reqs = h.reqs; nodes = each_more (λ (n : LogNode). Apart (data_fields (data_of n.op))) t.nodes _ h.nodes (fields_apart fields good.1.1.1.0) }
with_good t line (records.Merge done waits) good h = record { reqs = h.reqs; nodes = each_more (λ (n : LogNode). Apart (data_fields (data_of n.op))) t.nodes _ h.nodes apart_none }
with_good t line _ good h = record { reqs = h.reqs; nodes = h.nodes }

-- ---- all together

module _ (t : Tables) (d : AreDeclared t) where
  in_order : HasPointsInOrder t
  in_order = subst HasPointsInOrder (sym d.tables) (good_in_order d.log d.good)

  no_field_twice : HasFieldsApart t
  no_field_twice = subst HasFieldsApart (sym d.tables) (by_records Good HasFieldsApart (records_of d.log)
      (λ earlier l u good h. with_good (tables_of earlier) l.line l.rec good h) [] d.log d.good (no_broken_rule d.lines d.log d.faultless)
      (record { reqs = λ r m. absurd (Contains-nil m); nodes = λ n m. absurd (Contains-nil m) }))

  all_apart : Apart t.reqs
  all_apart = subst (λ (u : Tables). Apart u.reqs) (sym d.tables)
      (reqs_apart (tables_of d.log) (consistent Deps d.log (record { records = no_broken_rule d.lines d.log d.faultless; maps = refl })))

  own_few : (items : List ℕ) → Apart items → length (own_reqs t items) ≤ length t.reqs
  own_few items h =
      fewer (own_reqs t items) t.reqs (apart_flat (reqs_of t) items (λ i m. apart_filter (λ (r : Req). r.item == i) t.reqs all_apart)
      (λ i j r _ _ a b. sym (eqb-true r.item i (of_filter (λ (r : Req). r.item == i) t.reqs r a).1)
      ∙ eqb-true r.item j (of_filter (λ (r : Req). r.item == j) t.reqs r b).1) h)
      (λ r m. let at = member_flat (reqs_of t) items r m in (of_filter (λ (r : Req). r.item == at.0) t.reqs r at.2).0)

  -- Each node stands in the replay order once.
  whole_few : (point field : ℕ) → length (filter (is_at_place point field) (replay_steps t)) < 2 ^ 31
  whole_few point field =
      let ns = graph_of t.nodes in
      let ks = replay_order ns in
      let steps : ℕ → List Step = λ k. filter (is_at_place point field) (steps_at t k) in
      let within : (k : ℕ) → Contains ks k → Contains (range_with_len 0 (length t.nodes)) k =
      λ k m. number_in (length t.nodes) k (subst (λ n. k < n) (length-map t.nodes _) ((listed_decides ns k).0 m).0) in
      omega (
        arith,
        ap length (filter_flat (is_at_place point field) (steps_at t) ks),
        flat_few steps ks (range_with_len 0 (length t.nodes)) (once (replay ns).taken) within,
        nodes_few t in_order no_field_twice point field 0 t.nodes (λ k. let e : 0 + k ≡ k = omega arith in ap (slice_get t.nodes) e)
            no_field_twice.nodes,
        own_few (run_items t.nodes) (run_once t d),
        few_entries t d,
      )

  -- A replay takes few steps at a point and a field, also in tables that are cut: a run makes no more than two for each requirement of its task, an operation on data no more than one, and each task is run once.
  pub steps_are_few : (listed : Option (List ℕ)) (point field : ℕ)
      → length (filter (is_at_place point field) (replay_steps (cut_to listed t))) < 2 ^ 31
  steps_are_few None point field = whole_few point field
  steps_are_few (Some points) point field =
      omega (
        arith,
        whole_few point field,
        ap (λ xs. length (filter (is_at_place point field) xs)) (steps_cut points t (replay_order (graph_of t.nodes))),
        filter_both (is_at_place point field) (is_at points) (replay_steps t),
      )
