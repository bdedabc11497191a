-- Two steps of one node conflict only where the one is a read and the other is none, and no step is taken twice.
use Rattle.std.proofs.Common.{◌≡◌, ◌≢◌, ℕ, ◌⊎◌, inl, inr, Bool, true, false, not, ◌&&◌, ◌==◌, List, [], ◌∷◌, cond, refl, sym, ap, ap₂, ◌∙◌, subst, Some, arith, find, is_some, map, flat_map, Contains}
use Rattle.std.proofs.lemmas.Bool.{true≢false, and_parts, cond_both, eq-eqb, eqb-true, false_from_ne_true}
use Rattle.std.proofs.lemmas.Bool.Decides.{nat_tests}
use Rattle.std.proofs.lemmas.Option.{same_Some}
use Rattle.vocabulary.specs.Prelude.{Priv, agree, may_read, Cell, Move, Req, LogNode, Op, Map, Tables, is_in, points_in, reqs_of, grid, req_grid, id_of, mapped, mapped_cell, reads_by, changes_by, at_cells, run_moves, moves_of, same_cell, is_read, Access, Untouched, Writes, Folds, at_cell, from_to, access, conflicts, NodesConflictByReads}
use Rattle.privilege.specs.declared.kinds.Priv.TheVariants as privileges
use Rattle.semantics.specs.declared.moves.Move.TheVariants as moves
use Rattle.semantics.specs.declared.tables.Op.TheVariants as operations
use Rattle.semantics.specs.Rules.{tree_of_inst}
use Rattle.semantics.specs.Races.{Reads}
use Rattle.std.proofs.lemmas.List.Elements.{Contains-append_cases}
use Rattle.list_lemmas.proofs.lemmas.Contained.{only, member_map, member_flat, found_at, Contains-nil}
use Rattle.list_lemmas.proofs.lemmas.Filtered.{of_filter}
use Rattle.list_lemmas.proofs.lemmas.Firsts.{cases_option}
use Rattle.list_lemmas.proofs.lemmas.Pairs.{Apart, AllPairs-append, apart_map, apart_flat, apart_filter, apart_none, apart_one}
use Rattle.log_laws.proofs.lemmas.Apart.{grid_apart, member_grid}
use Rattle.log_laws.proofs.lemmas.Consistent.{AreConsistent, two_reqs, reqs_apart}
use Rattle.log_laws.proofs.Strict.{AreStrict, HasFieldsApart, points_in_apart}
use Rattle.log_laws.proofs.lemmas.StepLists.{of_node}

-- ---- cells and accesses

pub one_cell : (a b : Cell) → same_cell a b ≡ true → a ≡ b
unfolding same_cell
one_cell a b e =
    let both = and_parts (a.inst == b.inst && a.point == b.point) (a.field == b.field) e in
    let first = and_parts (a.inst == b.inst) (a.point == b.point) both.0 in
    λ i. record {
      inst = eqb-true a.inst b.inst first.0 i;
      point = eqb-true a.point b.point first.1 i;
      field =
          eqb-true a.field b.field both.1 i;
    }

pub untouched : (a : Access) → conflicts a Untouched ≡ false
untouched Untouched = refl
untouched _ = refl

-- An access that does not conflict with itself does not where it is at two cells either.
independent_of_itself : (here : Access) (a b : Bool) → conflicts here here ≡ false
    → conflicts (cond a here Untouched) (cond b here Untouched) ≡ false
independent_of_itself here true true e = e
independent_of_itself here true false e = untouched here
independent_of_itself here false b e = refl

reads_independent : (m n : Move) (c : Cell) → is_read m ≡ true → is_read n ≡ true → conflicts (access m c) (access n c) ≡ false
reads_independent (moves.Read j k a) (moves.Read l o b) c x y = independent_of_itself Reads (same_cell c a) (same_cell c b) refl
reads_independent _ _ c x y = absurd cc

-- The cells that a move touches: the one that it comes from, and the one that it goes to.
abbrev pub ends : Move → Cell × Cell
ends (moves.Read task req cell) = (cell, cell)
ends (moves.Write task cell) = (cell, cell)
ends (moves.Reduce task req op cell) = (cell, cell)
ends (moves.Copy from to) = (from, to)
ends (moves.Put cell n) = (cell, cell)
ends (moves.Reset cell) = (cell, cell)
ends (moves.Fold op from to) = (from, to)

-- What holds of both ends.
abbrev pub Ends : (Cell → Type 0) → Move → Type 0
Ends P m = P (ends m).0 × P (ends m).1

at_cell_touches : (P : Cell → Type 0) (cell : Cell) (here : Access) (c : Cell) → at_cell cell here c ≢ Untouched → P cell → P c
at_cell_touches P cell here c = cond_both (same_cell c cell) here Untouched (λ a. a ≢ Untouched → P cell → P c)
    (λ is h. subst P (sym (one_cell c cell is))) (λ no h. absurd (h refl))

from_to_touches : (P : Cell → Type 0) (from to : Cell) (here : Access) (c : Cell) → from_to from to here c ≢ Untouched → P from × P to → P c
from_to_touches P from to here c = cond_both (same_cell c to) (cond (same_cell c from) Writes here) (at_cell from Reads c)
    (λ a. a ≢ Untouched → P from × P to → P c)
    (λ is h both. subst P (sym (one_cell c to is)) both.1)
    (λ no h both. at_cell_touches P from Reads c h both.0)

-- What holds of both ends of a move holds of each cell that it touches.
touches : (P : Cell → Type 0) (m : Move) (c : Cell) → access m c ≢ Untouched → Ends P m → P c
touches P (moves.Copy from to) c h both = from_to_touches P from to Writes c h both
touches P (moves.Fold op from to) c h both = from_to_touches P from to (Folds op) c h both
touches P _ c h both = at_cell_touches P _ _ c h both.0

-- Two moves conflict only at a cell that both touch.
pub meet : (P Q : Cell → Type 0) (m n : Move) (c : Cell) → conflicts (access m c) (access n c) ≡ true → Ends P m → Ends Q n → P c × Q c
meet P Q m n c e at_m at_n = (
  touches P m c (λ none. true≢false (sym e ∙ ap (λ a. conflicts a (access n c)) none)) at_m,
  touches Q n c (λ none. true≢false (sym e ∙ ap (conflicts (access m c)) none ∙ untouched (access m c))) at_n,
)

-- The point and the field of a cell.
abbrev pub place : Cell → ℕ × ℕ
place c = (c.point, c.field)

-- Two of some moves conflict only where the one is a read and the other is none.
abbrev ConflictByReads : List Move → Type 0
ConflictByReads ms = (m n : Move) (c : Cell) → Contains ms m → Contains ms n → m ≢ n → conflicts (access m c) (access n c) ≡ true
    → is_read m ≢ is_read n

-- Of moves of one shape, over points and fields, two that conflict are one.
one_shape : (of : ℕ × ℕ → Move) (ps : List (ℕ × ℕ)) → ((p : ℕ × ℕ) → Ends (λ c. place c ≡ p) (of p)) → ConflictByReads (map of ps)
one_shape of ps at m n c a b differ e =
    let x = member_map of ps m a in
    let y = member_map of ps n b in
    let both = meet (λ c. place c ≡ x.0) (λ c. place c ≡ y.0) m n c e (subst (Ends (λ c. place c ≡ x.0)) (sym x.2) (at x.0))
    (subst (Ends (λ c. place c ≡ y.0)) (sym y.2) (at y.0)) in
    absurd (differ (x.2 ∙ ap of (sym both.0 ∙ both.1) ∙ sym y.2))

-- ---- the moves of a task

-- What a task does for a requirement at a cell, and which requirement of its that is.
pub record IsOf (t : Tables) (rs : List Req) (does : Req → Cell → List Move) (m : Move) : Type 0 where
  pub req : Req
  pub at : ℕ × ℕ
  pub is_req : Contains rs req
  pub is_at : Contains (req_grid t req) at
  pub is_done : Contains (does req (mapped_cell t req at)) m

pub is_of : (t : Tables) (rs : List Req) (does : Req → Cell → List Move) (m : Move) → Contains (at_cells t does rs) m → IsOf t rs does m
is_of t rs does m h =
    let r = member_flat (λ r. flat_map (λ p. does r (mapped_cell t r p)) (req_grid t r)) rs m h in
    let p = member_flat (λ p. does r.0 (mapped_cell t r.0 p)) (req_grid t r.0) m r.2 in
    record { req = r.0; at = p.0; is_req = r.1; is_at = p.1; is_done = p.2 }

pub read_is : (task number : ℕ) (access : Priv) (c : Cell) (m : Move) → Contains (reads_by task number access c) m
    → m ≡ moves.Read task number c
read_is task number access c m = cond_both (may_read access) (moves.Read task number c ∷ []) [] (λ ms. Contains ms m
    → m ≡ moves.Read task number c) (λ _ h. only h) (λ _ none. absurd (Contains-nil none))

-- How a task changes a cell for a requirement that lets it.
abbrev pub change_of : ℕ → ℕ → Priv → Cell → Move
change_of task number (privileges.Red op) c = moves.Reduce task number op c
change_of task number _ c = moves.Write task c

pub change_tells : (task number : ℕ) (access : Priv) (c : Cell) (m : Move) → Contains (changes_by task number access c) m
    → (m ≡ change_of task number access c) × (is_read m ≡ false) × Ends (λ x. x ≡ c) m
change_tells task number privileges.Ro c m none = absurd (Contains-nil none)
change_tells task number _ c m h = let is = only h in (is, ap is_read is, subst (Ends (λ x. x ≡ c)) (sym is) (refl, refl))

-- Changes for two requirements that agree are reductions with one operator.
pub reductions : (task j k : ℕ) (p q : Priv) (a b : Cell) (m n : Move) → agree p q ≡ true → Contains (changes_by task j p a) m
    → Contains (changes_by task k q b) n
    → (op : ℕ) × (m ≡ moves.Reduce task j op a) × (n ≡ moves.Reduce task k op b)
reductions task j k privileges.Ro q a b m n e none y = absurd (Contains-nil none)
reductions task j k (privileges.Red o) (privileges.Red p) a b m n e x y =
    (o, only x, only y ∙ ap (λ op. moves.Reduce task k op b) (sym (eqb-true o p e)))
reductions task j k _ _ a b m n e x y = absurd cc

-- What a task does for a requirement at a cell: its reads, and its changes.
abbrev pub reads : ℕ → Req → Cell → List Move
reads task r c = reads_by task r.number r.access c

abbrev pub changes : ℕ → Req → Cell → List Move
changes task r c = changes_by task r.number r.access c

pub a_read : (task : ℕ) (t : Tables) (rs : List Req) (m : Move) → IsOf t rs (reads task) m → is_read m ≡ true
a_read task t rs m x = ap is_read (read_is task x.req.number x.req.access (mapped_cell t x.req x.at) m x.is_done)

pub no_read : (task : ℕ) (t : Tables) (rs : List Req) (m : Move) → IsOf t rs (changes task) m → is_read m ≡ false
no_read task t rs m x = (change_tells task x.req.number x.req.access (mapped_cell t x.req x.at) m x.is_done).1

of_run : (task : ℕ) (t : Tables) (rs : List Req) (m : Move) → Contains (run_moves t task rs) m → IsOf t rs (reads task) m
    ⊎ IsOf t rs (changes task) m
of_run task t rs m h =
    elim (Contains-append_cases (at_cells t (reads task) rs) (at_cells t (changes task) rs) m h) [
      | inl r ↦ inl (is_of t rs _ m r)
      | inr c ↦
          inr (is_of t rs _ m c)
    ]

read_once : (task number : ℕ) (access : Priv) (c : Cell) → Apart (reads_by task number access c)
read_once task number access c = cond_both (may_read access) (moves.Read task number c ∷ []) [] Apart
    (λ _. apart_one (moves.Read task number c)) (λ _. apart_none)

change_once : (task number : ℕ) (access : Priv) (c : Cell) → Apart (changes_by task number access c)
change_once task number privileges.Ro c = apart_none
change_once task number _ c = apart_one _

module _ (t : Tables) (consistent : AreConsistent t) (whole : (r : Req) (field : ℕ) → Contains t.reqs r → Contains r.fields field
    → is_some (mapped t r field) ≡ true) where
  -- The cell to which a requirement is mapped is of its tree.
  mapped_tree : (r : Req) (p : ℕ × ℕ) → Contains t.reqs r → Contains (req_grid t r) p → tree_of_inst t (mapped_cell t r p).inst ≡ Some r.tree
  mapped_tree r p is at =
      elim (cases_option (find (λ (m : Map). (m.item == r.item) && ((m.number == r.number) && is_in m.fields p.1)) t.maps)) [
        | inl none ↦ absurd (true≢false (sym (whole r p.1 is (member_grid (points_in t r.space) r.fields p at).1) ∙ rw none refl))
        | inr some ↦
            let m : Map = some.0 in
            let found = found_at (λ (m : Map). (m.item == r.item) && ((m.number == r.number) && is_in m.fields p.1)) t.maps m some.1 in
            let names = consistent.named m found.0 in
            let q : Req = names.0 in
            let named = found_at (λ (r : Req). (r.item == m.item) && (r.number == m.number)) t.reqs q names.2 in
            elim (two_reqs t consistent q r named.0 is (grind (arith, nat_tests, found.1, named.1))) [
              | inl one ↦ rw (some.1, names.3) (ap (λ n. Some n) (names.4 ∙ ap (λ (r : Req). r.tree) one))
              | inr two ↦ absurd (two.0 (grind (arith, nat_tests, found.1, named.1)))
            ]
      ]

  module _ (item : ℕ) where
    pub own : (r : Req) → Contains (reqs_of t item) r → Contains t.reqs r × (r.item ≡ item)
    own r m = let f = of_filter (λ (r : Req). r.item == item) t.reqs r m in (f.0, eqb-true r.item item f.1)

    -- Two requirements of one task are one, or have different numbers and agree, if they are mapped to one cell.
    pub one_or_agree : (q r : Req) (p s : ℕ × ℕ) → Contains (reqs_of t item) q → Contains (reqs_of t item) r → Contains (req_grid t q) p
        → Contains (req_grid t r) s → mapped_cell t q p ≡ mapped_cell t r s
        → (q ≡ r) ⊎ ((q.number ≢ r.number) × (agree q.access r.access ≡ true))
    one_or_agree q r p s is_q is_r at_p at_s here =
        let a = own q is_q in
        let b = own r is_r in
        let trees = sym (mapped_tree q p a.0 at_p) ∙ ap (λ (c : Cell). tree_of_inst t c.inst) here ∙ mapped_tree r s b.0 at_s in
        elim (two_reqs t consistent q r a.0 b.0 (a.1 ∙ sym b.1)) [
          | inl one ↦ inl one
          | inr two ↦ inr (two.0, two.1 p at_p (subst (Contains (req_grid t r)) (sym (ap place here)) at_s) (same_Some q.tree r.tree trees))
        ]

    two_changes : (task : ℕ) (m n : Move) (c : Cell) → IsOf t (reqs_of t item) (changes task) m → IsOf t (reqs_of t item) (changes task) n
        → m ≢ n → conflicts (access m c) (access n c) ≡ false
    two_changes task m n c x y differ = false_from_ne_true (conflicts (access m c) (access n c)) (λ e.
        let a = mapped_cell t x.req x.at in
        let b = mapped_cell t y.req y.at in
        let first = change_tells task x.req.number x.req.access a m x.is_done in
        let second = change_tells task y.req.number y.req.access b n y.is_done in
        let both = meet (λ c. c ≡ a) (λ c. c ≡ b) m n c e first.2 second.2 in
        elim (one_or_agree x.req y.req x.at y.at x.is_req y.is_req x.is_at y.is_at (sym both.0 ∙ both.1)) [
          | inl one ↦ differ (first.0 ∙ ap₂ (λ (r : Req) c. change_of task r.number r.access c) one (sym both.0 ∙ both.1) ∙ sym second.0)
          | inr two ↦
              let r = reductions task x.req.number y.req.number x.req.access y.req.access a b m n two.1 x.is_done y.is_done in
              true≢false (sym e ∙ ap₂ (λ m n. conflicts (access m c) (access n c)) r.1 r.2
              ∙ independent_of_itself (Folds r.0) (same_cell c a) (same_cell c b) (ap not (eq-eqb r.0 r.0 refl)))
        ])

    run_by_reads : (task : ℕ) → ConflictByReads (run_moves t task (reqs_of t item))
    run_by_reads task m n c a b differ e same = elim (of_run task t (reqs_of t item) m a) [
      | inl x ↦ let read = a_read task t (reqs_of t item) m x in true≢false (sym e ∙ reads_independent m n c read (sym same ∙ read))
      | inr x ↦ elim (of_run task t (reqs_of t item) n b) [
        | inl y ↦ true≢false (sym (a_read task t (reqs_of t item) n y) ∙ sym same ∙ no_read task t (reqs_of t item) m x)
        | inr y ↦ true≢false (sym e ∙ two_changes task m n c x y differ)
      ]
    ]

  op_by_reads : (op : Op) → ConflictByReads (moves_of t op)
  op_by_reads (operations.Run item) = run_by_reads item (id_of t item)
  op_by_reads operations.Merge = λ m n c a b differ e. absurd (Contains-nil a)
  op_by_reads _ = one_shape _ _ (λ p. (refl, refl))

  pub by_reads : NodesConflictByReads t
  by_reads node m n c a b differ e =
      let x = of_node t _ _ a in
      let y = of_node t _ _ b in
      let one = same_Some y.node x.node (sym y.is_node ∙ x.is_node) in
      op_by_reads x.node.op m n c x.is_move (subst (λ (k : LogNode). Contains (moves_of t k.op) n) one y.is_move) differ e

  -- ---- a node takes no step twice

  module _ (strict : AreStrict t) where
    grid_once : (space : ℕ) (fields : List ℕ) → Apart fields → Apart (grid (points_in t space) fields)
    grid_once space fields h = grid_apart (points_in t space) fields (points_in_apart t space strict) h

    module _ (item task : ℕ) where
      -- A task does once at each cell what it does for its requirements, if each move tells its cell, and of requirements that agree the number of its own.
      module _ (does : Req → Cell → List Move) (each : (r : Req) (c : Cell) → Apart (does r c)) (cell : (r : Req) (c : Cell) (m : Move)
          → Contains (does r c) m → (ends m).0 ≡ c)
          (number : (q r : Req) (a b : Cell) (m : Move) → agree q.access r.access ≡ true → Contains (does q a) m → Contains (does r b) m
          → q.number ≡ r.number) where
        cells_once : Apart (at_cells t does (reqs_of t item))
        cells_once = apart_flat (λ r. flat_map (λ p. does r (mapped_cell t r p)) (req_grid t r)) (reqs_of t item)
            (λ r is. apart_flat (λ p. does r (mapped_cell t r p)) (req_grid t r) (λ p at. each r (mapped_cell t r p))
            (λ p s m _ _ a b. ap place (sym (cell r (mapped_cell t r p) m a) ∙ cell r (mapped_cell t r s) m b))
            (grid_once r.space r.fields (strict.fields r (own item r is).0)))
            (λ q r m is_q is_r a b.
            let x = member_flat (λ p. does q (mapped_cell t q p)) (req_grid t q) m a in
            let y = member_flat (λ p. does r (mapped_cell t r p)) (req_grid t r) m b in
            let here = sym (cell q (mapped_cell t q x.0) m x.2) ∙ cell r (mapped_cell t r y.0) m y.2 in
            elim (one_or_agree item q r x.0 y.0 is_q is_r x.1 y.1 here) [
              | inl one ↦ one
              | inr two ↦
                  absurd (two.0 (number q r _ _ m two.1 x.2 y.2))
            ])
            (apart_filter (λ (r : Req). r.item == item) t.reqs (reqs_apart t consistent))

      run_once : Apart (run_moves t task (reqs_of t item))
      run_once = AllPairs-append (λ m n. m ≢ n) _ _
          (cells_once (reads task) (λ r c. read_once task r.number r.access c)
          (λ r c m h. ap (λ m. (ends m).0) (read_is task r.number r.access c m h))
          (λ q r a b m _ x y. let same : moves.Read task q.number a ≡ moves.Read task r.number b =
          sym (read_is task q.number q.access a m x) ∙ read_is task r.number r.access b m y in cc))
          (cells_once (changes task) (λ r c. change_once task r.number r.access c)
          (λ r c m h. (change_tells task r.number r.access c m h).2.0)
          (λ q r a b m e x y.
          let both = reductions task q.number r.number q.access r.access a b m m e x y in
          let same : moves.Reduce task q.number both.0 a ≡ moves.Reduce task r.number both.0 b = sym both.1 ∙ both.2 in cc))
          (λ m n x y e. true≢false (sym (a_read task t (reqs_of t item) m (is_of t (reqs_of t item) _ m x)) ∙ ap is_read e
          ∙ no_read task t (reqs_of t item) n (is_of t (reqs_of t item) _ n y)))

    pub moves_once : (op : Op) → HasFieldsApart op → Apart (moves_of t op)
    moves_once (operations.Run item) h = run_once item (id_of t item)
    moves_once operations.Merge h = apart_none
    moves_once _ h = apart_map _ _ (λ p q e. ap (λ m. place (ends m).0) e) (grid_once _ _ h)
