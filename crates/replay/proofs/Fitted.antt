-- The steps of a log are of instances of the right kinds, and its reads of the items that nodes run.
use Rattle.std.proofs.Common.{◌≡◌, ℕ, ◌<◌, ◌≤◌, ◌==◌, ◌&&◌, nat_lt, cond, inl, inr, Bool, true, false, not, List, [], ◌∷◌, ◌++◌, flat_map, find, position, length, Some, None, unwrap_or, refl, sym, ap, ◌∙◌, subst, arith, Contains}
use Rattle.std.specs.List.{AllByRecursion, list_any, list_all, position_or_len}
use Rattle.std.specs.Option.{option_map_or}
use Rattle.std.proofs.lemmas.Bool.{cases_Bool, and_parts, or_parts, not-false, true≢false, ltb-true, ltb-false}
use Rattle.std.proofs.lemmas.List.{length-append}
use Rattle.std.proofs.lemmas.List.Sums.{fails_before_first}
use Rattle.std.proofs.lemmas.List.Elements.{recursion_from_All, Contains-append_cases}
use Rattle.vocabulary.specs.Prelude.{Priv, Record, Lined, Cell, Move, Item, Req, Inst, LogNode, Op, records_of, Tables, place_of, with_record, tables_of, points_in, reqs_of, grid, req_grid, id_of, cell_in, mapped_cell, at_cells, reads_by, changes_by, run_moves, moves_of, operator_of, steps_by}
use Rattle.privilege.specs.declared.kinds.Priv.TheVariants as privileges
use Rattle.spy_grammar.specs.declared.code.Code.TheVariants as codes
use Rattle.spy_grammar.specs.declared.record.Record.TheVariants as records
use Rattle.semantics.specs.declared.moves.Move.TheVariants as moves
use Rattle.semantics.specs.declared.tables.Op.TheVariants as operations
use Rattle.semantics.specs.Rules.{is_task, is_declared, is_reduction, reduces_in, is_of_wrong_kind, names, inst_id, task_id}
use Rattle.logs.specs.Faultless.{AreDeclared}
use Rattle.list_lemmas.proofs.lemmas.Contained.{each_more, member_flat, member_map, all_at, any_at, any_found, find_any, find_still, only, Contains-here, Contains-nil, all_contained}
use Rattle.list_lemmas.proofs.lemmas.Firsts.{contains_at}
use Rattle.log_laws.proofs.lemmas.StepLists.{of_node}
use Rattle.log_laws.proofs.lemmas.Admitted.{Unbroken, rule_kept, by_records, no_broken_rule}
use Rattle.inst_steps.specs.Celled.{AreOfInsts}
use Rattle.inst_steps.specs.Places.{StaysAtPlace}
use Rattle.inst_steps.specs.Stepping.{moves_at}
use Rattle.replay.specs.Fitting.{Fits, IsOfItem, KeepsKinds, item_at, item_run}

-- ---- the first element that passes a test

place_below : {X : Type 0} (p : X → Bool) (xs : List X) → list_any p xs ≡ true → unwrap_or (position p xs) (length xs) < length xs
place_below p xs e =
    let a = any_found p xs e in
    let c = a.1 in
    let first = position_or_len p xs in
    elim (cases_Bool (nat_lt first (length xs))) [
      | inl less ↦ subst (λ b. unwrap_or (cond b (Some first) None) (length xs) < length xs) (sym less) (ltb-true first (length xs) less)
      | inr other ↦
          let past : length xs ≤ first = ltb-false first (length xs) other in
          let far : c.0 < first = let lt = c.1 in omega (arith, lt, past) in
          absurd (true≢false (sym a.2 ∙ ap p (sym c.2) ∙ fails_before_first p xs c.0 a.0 far))
    ]

-- ---- what the rules make of nodes

-- An instance is there, and is or is none that reduces.
pub record IsOfKind (insts : List Inst) (id : ℕ) (reduces : Bool) : Type 0 where
  pub inst : Inst
  pub found : find (λ (i : Inst). i.id == id) insts ≡ Some inst
  pub kind : is_reduction inst.kind ≡ reduces

abbrev pub OpFits : List Inst → List Item → Op → Type 0
OpFits insts items (operations.Run item) = item < length items
OpFits insts items (operations.Copy src dst space fields) = IsOfKind insts dst false
OpFits insts items (operations.Fold src dst space fields) = IsOfKind insts src true × IsOfKind insts dst false
OpFits insts items (operations.Put inst space fields n) = Unit {0}
OpFits insts items (operations.Reset inst space fields) = Unit {0}
OpFits insts items operations.Merge = Unit {0}

abbrev pub NodesFit : Tables → Type 0
NodesFit t = (n : LogNode) → Contains t.nodes n → OpFits t.insts t.items n.op

kind_still : (insts : List Inst) (x : Inst) (id : ℕ) (b : Bool) → IsOfKind insts id b → IsOfKind (insts ++ x ∷ []) id b
kind_still insts x id b k = record {
  inst = k.inst;
  found = find_still (λ (i : Inst). i.id == id) insts (x ∷ []) k.inst k.found;
  kind =
      k.kind;
}

more_insts : (insts : List Inst) (x : Inst) (items : List Item) (op : Op) → OpFits insts items op → OpFits (insts ++ x ∷ []) items op
more_insts insts x items (operations.Run item) h = h
more_insts insts x items (operations.Copy src dst space fields) h = kind_still insts x dst false h
more_insts insts x items (operations.Fold src dst space fields) h = (kind_still insts x src true h.0, kind_still insts x dst false h.1)
more_insts insts x items (operations.Put inst space fields n) h = tt
more_insts insts x items (operations.Reset inst space fields) h = tt
more_insts insts x items operations.Merge h = tt

more_items : (insts : List Inst) (items : List Item) (x : Item) (op : Op) → OpFits insts items op → OpFits insts (items ++ x ∷ []) op
more_items insts items x (operations.Run item) h = let a = length-append items (x ∷ []) in omega (arith, a, h)
more_items insts items x (operations.Copy src dst space fields) h = h
more_items insts items x (operations.Fold src dst space fields) h = h
more_items insts items x (operations.Put inst space fields n) h = tt
more_items insts items x (operations.Reset inst space fields) h = tt
more_items insts items x operations.Merge h = tt

of_kind : (t : Tables) (id : ℕ) (b : Bool) → is_declared t (inst_id id) ≡ true → reduces_in t id ≡ b → IsOfKind t.insts id b
of_kind t id b there e =
    let f = find_any (λ (i : Inst). i.id == id) t.insts there in
    record { inst = f.0; found = f.1; kind = sym (ap (λ o. option_map_or (λ (i : Inst). is_reduction i.kind) o false) f.1) ∙ e }

task_there : (t : Tables) (id : ℕ) → is_declared t (task_id id) ≡ true → place_of t.items id < length t.items
task_there t id e =
    let a = any_found (λ (i : Item). (i.id == id) && is_task i.body) t.items e in
    place_below (λ (i : Item). i.id == id) t.items
    (any_at (λ (i : Item). i.id == id) t.items a.0 a.1 (and_parts (a.0.id == id) (is_task a.0.body) a.2).0)

record Ruled (t : Tables) (r : Record) : Type 0 where
  declared : list_all (is_declared t) (names r) ≡ true
  kinds : is_of_wrong_kind t r ≡ false

node_fits : (t : Tables) (n : LogNode) → NodesFit t → OpFits t.insts t.items n.op
    → (m : LogNode) → Contains (t.nodes ++ n ∷ []) m → OpFits t.insts t.items m.op
node_fits t n h w = each_more (λ (n : LogNode). OpFits t.insts t.items n.op) t.nodes n h w

more_fit : (t : Tables) (line : ℕ) (r : Record) → Ruled t r → NodesFit t → NodesFit (with_record t line r)
more_fit t line (records.Inst id tree space fields kind) k h = λ n m. more_insts t.insts _ t.items n.op (h n m)
more_fit t line (records.Task id) k h = λ n m. more_items t.insts t.items _ n.op (h n m)
more_fit t line (records.Fill id tree space fields value) k h = λ n m. more_items t.insts t.items _ n.op (h n m)
more_fit t line (records.Run task done waits) k h =
    node_fits t _ h (task_there t task (all_at (is_declared t) (task_id task ∷ []) (task_id task) k.declared (Contains-here [])))
more_fit t line (records.Copy src dst space fields done waits) k h =
    let one = or_parts _ (src == dst) k.kinds in
    let two = or_parts (reduces_in t src) (reduces_in t dst) one.0 in
    node_fits t _ h (of_kind t dst false (all_at (is_declared t) (names (records.Copy src dst space fields done waits))
    (inst_id dst) k.declared (1, omega arith, refl)) two.1)
more_fit t line (records.Fold src dst space fields done waits) k h =
    let two = or_parts _ (reduces_in t dst) k.kinds in
    let there = all_at (is_declared t) (names (records.Fold src dst space fields done waits)) in
    node_fits t _ h (
      of_kind t src true (there (inst_id src) k.declared (0, omega arith, refl)) (not-false _ two.0),
      of_kind t dst false (there (inst_id dst) k.declared (1, omega arith, refl)) two.1,
    )
more_fit t line (records.Put inst space fields n done waits) k h = node_fits t _ h tt
more_fit t line (records.Reset inst space fields done waits) k h = node_fits t _ h tt
more_fit t line (records.Merge done waits) k h = node_fits t _ h tt
more_fit t line _ k h = h

ruled : (log : List Record) (earlier : List Lined) (r : Record) → Unbroken log earlier r → Ruled (tables_of earlier) r
ruled log earlier r u =
    let known = or_parts (not (list_all (is_declared (tables_of earlier)) (names r))) _ (rule_kept codes.UnknownId refl u) in
    record { declared = not-false _ known.0; kinds = rule_kept codes.WrongKind refl u }

pub nodes_fit : (t : Tables) → AreDeclared t → NodesFit t
nodes_fit t d = subst NodesFit (sym d.tables) (by_records (λ r. Unit {0}) NodesFit (records_of d.log)
    (λ earlier l u _. more_fit (tables_of earlier) l.line l.rec (ruled (records_of d.log) earlier l.rec u))
    [] d.log (recursion_from_All _ (records_of d.log) (λ k d lt. tt)) (no_broken_rule d.lines d.log d.faultless) (λ n m. absurd (Contains-nil m)))

-- ---- moves of an operation

-- What matters of a move of an operation that runs an item.
abbrev Suits : Tables → ℕ → Move → Type 0
Suits t item m = KeepsKinds t m × StaysAtPlace m × IsOfItem t item m

module _ (t : Tables) (item task : ℕ) (at : place_of t.items task ≡ item) (within : item < length t.items) where
  read_suits : (number : ℕ) (p : Priv) (c : Cell) (m : Move) → Contains (reads_by task number p c) m → Suits t item m
  read_suits number privileges.Ro c m is = subst (Suits t item) (sym (only is)) (tt, tt, (at, within))
  read_suits number privileges.Rw c m is = subst (Suits t item) (sym (only is)) (tt, tt, (at, within))
  read_suits number privileges.Wd c m is = absurd (Contains-nil is)
  read_suits number (privileges.Red op) c m is = absurd (Contains-nil is)

  change_suits : (number : ℕ) (p : Priv) (c : Cell) (m : Move) → Contains (changes_by task number p c) m → Suits t item m
  change_suits number privileges.Ro c m is = absurd (Contains-nil is)
  change_suits number privileges.Rw c m is = subst (Suits t item) (sym (only is)) (tt, tt, tt)
  change_suits number privileges.Wd c m is = subst (Suits t item) (sym (only is)) (tt, tt, tt)
  change_suits number (privileges.Red op) c m is = subst (Suits t item) (sym (only is)) (tt, tt, tt)

  cells_suit : (does : Req → Cell → List Move) → ((r : Req) (c : Cell) (m : Move) → Contains (does r c) m → Suits t item m)
      → (rs : List Req) (m : Move) → Contains (at_cells t does rs) m → Suits t item m
  cells_suit does each rs m is =
      let r = member_flat (λ r. flat_map (λ p. does r (mapped_cell t r p)) (req_grid t r)) rs m is in
      let p = member_flat (λ p. does r.0 (mapped_cell t r.0 p)) (req_grid t r.0) m r.2 in
      each r.0 (mapped_cell t r.0 p.0) m p.2

  run_suits : (rs : List Req) (m : Move) → Contains (run_moves t task rs) m → Suits t item m
  run_suits rs m is = elim (Contains-append_cases (at_cells t (λ r c. reads_by task r.number r.access c) rs)
      (at_cells t (λ r c. changes_by task r.number r.access c) rs) m is) [
        | inl a ↦ cells_suit (λ r c. reads_by task r.number r.access c) (λ r c. read_suits r.number r.access c) rs m a
        | inr b ↦ cells_suit (λ r c. changes_by task r.number r.access c) (λ r c. change_suits r.number r.access c) rs m b
      ]

kind_is : (t : Tables) (id : ℕ) (b : Bool) → IsOfKind t.insts id b → reduces_in t id ≡ b
kind_is t id b k = ap (λ o. option_map_or (λ (i : Inst). is_reduction i.kind) o false) k.found ∙ k.kind

op_suits : (t : Tables) → ((item : ℕ) → item < length t.items → place_of t.items (id_of t item) ≡ item) → (op : Op)
    → OpFits t.insts t.items op → (m : Move) → Contains (moves_of t op) m → Suits t (item_run op) m
op_suits t apart (operations.Run item) h m is = run_suits t item (id_of t item) (apart item h) h (reqs_of t item) m is
op_suits t apart (operations.Copy src dst space fields) h m is =
    let p = member_map (λ p. moves.Copy (cell_in src p) (cell_in dst p)) (grid (points_in t space) fields) m is in
    subst (Suits t 0) (sym p.2) (kind_is t dst false h, (refl, refl), tt)
op_suits t apart (operations.Put inst space fields n) h m is =
    let p = member_map (λ p. moves.Put (cell_in inst p) n) (grid (points_in t space) fields) m is in
    subst (Suits t 0) (sym p.2) (tt, tt, tt)
op_suits t apart (operations.Reset inst space fields) h m is =
    let p = member_map (λ p. moves.Reset (cell_in inst p)) (grid (points_in t space) fields) m is in
    subst (Suits t 0) (sym p.2) (tt, tt, tt)
op_suits t apart (operations.Fold src dst space fields) h m is =
    let p = member_map (λ p. moves.Fold (operator_of t src) (cell_in src p) (cell_in dst p)) (grid (points_in t space) fields) m is in
    subst (Suits t 0) (sym p.2) ((kind_is t src true h.0, kind_is t dst false h.1), (refl, refl), tt)
op_suits t apart operations.Merge h m is = absurd (Contains-nil is)

-- ---- the steps

-- `u` are the tables cut to some points: they have the same items, instances and nodes.
pub steps_fitted : (u : Tables) → NodesFit u → ((item : ℕ) → item < length u.items → place_of u.items (id_of u item) ≡ item)
    → ((node : ℕ) (m : Move) → Contains (moves_at u node) m → AreOfInsts u m) → (ks : List ℕ) → AllByRecursion (Fits u) (steps_by u ks)
steps_fitted u nodes apart cells ks = recursion_from_All (Fits u) (steps_by u ks) (all_contained (Fits u) (steps_by u ks) (λ x m.
    let of = of_node u ks x m in
    let at : moves_at u x.node ≡ moves_of u of.node.op = ap (λ o. option_map_or (λ (n : LogNode). moves_of u n.op) o []) of.is_node in
    let suits = op_suits u apart of.node.op (nodes of.node (contains_at u.nodes x.node of.node of.is_node)) x.move of.is_move in
    let item : item_at u x.node ≡ item_run of.node.op = ap (λ o. option_map_or (λ (n : LogNode). item_run n.op) o 0) of.is_node in
    record {
      cells = cells x.node x.move (subst (λ ms. Contains ms x.move) (sym at) of.is_move);
      kinds = suits.0;
      stays = suits.1;
      item = subst (λ i. IsOfItem u i x.move) (sym item) suits.2;
    }))
