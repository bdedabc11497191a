-- What tasks do at first points tells whether they are in turn.
use Rattle.std.proofs.Common.{◌≡◌, ℕ, ◌<◌, ◌==◌, ◌&&◌, inl, inr, Bool, true, false, not, List, [], Contains, refl, sym, ap, ap₂, ◌∙◌, subst, arith, length, filter}
use Rattle.std.proofs.lemmas.Bool.{true≢false, and_parts, and_from, eqb-true, eq-eqb}
use Rattle.vocabulary.specs.Prelude.{Place, Req, Tables, is_in, points_in, covers, graph_of}
use Rattle.semantics.specs.SerialOrder.{serial, serial_place}
use Rattle.semantics.specs.Shown.{is_task_at, run_of}
use Rattle.reach_marks.specs.Reached.{Marks, AreMarksOf, before_in}
use Rattle.log_laws.proofs.lemmas.Members.{member_in, is_in_of}
use Rattle.cell_races.specs.declared.cell_accesses.CellAccess.{CellAccess}
use Rattle.cell_races.specs.CellAccesses.{cell_access}
use Rattle.cell_races.specs.Turns as turns
use Rattle.order_laws.specs.Turns.{AreInTurnBut, ListsItems}
use Rattle.order_laws.specs.TaskAccesses.{access_of}
use Rattle.order_laws.proofs.lemmas.Agreeing.{conflicts_are}
use Rattle.order_laws.proofs.lemmas.TaskUses.{own_req, task_within}
use Rattle.task_order.specs.Gathered.{IsOneAt, Adds, IsDoneBy, AreDoneBy, in_order}
use Rattle.task_order.specs.Runs.{AreRunsOf}
use Rattle.task_order.proofs.Running.{run_at}
use Rattle.list_lemmas.proofs.lemmas.Filtered.{of_filter, in_filter}

-- ---- what one requirement does

same_cell_access : (x : CellAccess) (tree place : ℕ) (x_tree : x.cell.inst ≡ tree) → x.place ≡ place
    → x ≡ cell_access place (record { inst = tree; point = x.cell.point; field = x.cell.field }) x.access
same_cell_access x tree place e f = ap₂ (λ i k. cell_access k (record { inst = i; point = x.cell.point; field = x.cell.field }) x.access) e f

pub adds_done : (t : Tables) (points pts : List ℕ) (r : Req) (one : CellAccess) (old new : List CellAccess) → is_task_at t r.item ≡ true
    → points_in t r.space ≡ pts
    → one.cell.inst ≡ r.tree → one.place ≡ serial_place t r.item → one.access ≡ access_of r.access
    → Adds (IsOneAt one (filter (is_in points) pts) r.fields) old new → Adds (IsDoneBy t points r) old new
adds_done t points pts r one old new task set tree place access h = record {
  kept = h.kept;
  sound = λ x m. elim (h.sound x m) [
    | inl early ↦ inl early
    | inr late ↦
        let f = of_filter (is_in points) pts late.point late.in_points in
        let here : is_in (points_in t r.space) late.point ≡ true =
        is_in_of (points_in t r.space) late.point (subst (λ ps. Contains ps late.point) (sym set) f.0) in
        let field : is_in r.fields late.field ≡ true = is_in_of r.fields late.field late.in_fields in
        inr (subst (IsDoneBy t points r) (sym late.is) (record {
          task = task;
          covered = and_from (r.tree == one.cell.inst) _ (eq-eqb r.tree one.cell.inst (sym tree))
              (and_from (is_in (points_in t r.space) late.point) (is_in r.fields late.field) here field);
          listed = f.1;
          place = place;
          access = access;
        }))
  ];
  whole = λ x d.
      let a = and_parts (r.tree == x.cell.inst) (is_in (points_in t r.space) x.cell.point && is_in r.fields x.cell.field) d.covered in
      let b = and_parts (is_in (points_in t r.space) x.cell.point) (is_in r.fields x.cell.field) a.1 in
      let in_set : Contains pts x.cell.point = subst (λ ps. Contains ps x.cell.point) set
      (member_in (points_in t r.space) x.cell.point b.0) in
      h.whole x (record {
        point = x.cell.point;
        field = x.cell.field;
        in_points = (in_filter (is_in points) pts x.cell.point in_set d.listed);
        in_fields = (member_in r.fields x.cell.field b.1);
        is = same_cell_access x one.cell.inst one.place (sym (eqb-true r.tree x.cell.inst a.0) ∙ sym tree) (d.place ∙ sym place)
            ∙ ap (λ acc. cell_access one.place (record { inst = one.cell.inst; point = x.cell.point; field = x.cell.field }) acc)
            (d.access ∙ sym access);
      });
}

pub adds_nothing : (t : Tables) (points : List ℕ) (r : Req) (old : List CellAccess) → ((x : CellAccess) → IsDoneBy t points r x → ⊥)
    → Adds (IsDoneBy t points r) old old
adds_nothing t points r old none = record { kept = λ x m. m; sound = λ x m. inl m; whole = λ x d. absurd (none x d) }

pub none_there : (t : Tables) (points : List ℕ) (r : Req) → points_in t r.space ≡ [] → (x : CellAccess) → IsDoneBy t points r x → ⊥
none_there t points r none x d =
    let a = and_parts (r.tree == x.cell.inst) (is_in (points_in t r.space) x.cell.point && is_in r.fields x.cell.field) d.covered in
    let b = and_parts (is_in (points_in t r.space) x.cell.point) (is_in r.fields x.cell.field) a.1 in
    true≢false (sym b.0 ∙ ap (λ ps. is_in ps x.cell.point) none)

-- ---- in turn

abbrev done_at : Tables → ℕ → Place → Req → CellAccess
done_at t a p r = cell_access (serial_place t a) (record { inst = p.tree; point = p.point; field = p.field }) (access_of r.access)

is_done : (t : Tables) (points : List ℕ) (a : ℕ) (p : Place) (r : Req) → is_task_at t a ≡ true → r.item ≡ a → covers t p r ≡ true
    → is_in points p.point ≡ true → IsDoneBy t points r (done_at t a p r)
is_done t points a p r task item covered listed = record {
  task = ap (is_task_at t) item ∙ task;
  covered = covered;
  listed =
      listed;
  place = ap (serial_place t) (sym item);
  access = refl;
}

pub in_turn : (t : Tables) (marks : Marks) (runs points : List ℕ) (cell_accesses : List CellAccess) (noted : List Bool) (out : ℕ → Bool)
    → ListsItems t
    → AreRunsOf t runs → AreMarksOf (graph_of t.nodes) marks → AreDoneBy t points t.reqs cell_accesses
    → turns.AreInTurnBut (before_in marks) (in_order runs t) cell_accesses noted
    → ((item : ℕ) → item < length t.items → out item ≡ turns.is_noted noted (serial_place t item)) → AreInTurnBut t points out
in_turn t marks runs points cell_accesses noted out lists are marked done turn items a b p listed one other m less a_free b_free =
    let q = own_req t a m.q one m.of_a in
    let r = own_req t b m.r other m.of_b in
    let x = done_at t a p m.q in
    let y = done_at t b p m.r in
    let x_in = done.whole m.q x q.0 (is_done t points a p m.q one q.1 m.at_a listed) in
    let y_in = done.whole m.r y r.0 (is_done t points b p m.r other r.1 m.at_b listed) in
    let so = turn x y x_in y_in refl less (conflicts_are m.q.access m.r.access ∙ ap not m.differ)
    (sym (items a (task_within t a one)) ∙ a_free) (sym (items b (task_within t b other)) ∙ b_free) in
    let first = run_at t runs lists are a (task_within t a one) in
    let second = run_at t runs lists are b (task_within t b other) in
    let before : before_in marks (run_of t a) (run_of t b) ≡ true = sym (ap₂ (before_in marks) first second) ∙ so in
    let within = marked.within (run_of t a) (run_of t b) before in
    (marked.exact (run_of t a) (run_of t b) within.0 within.1).0 before

pub listed_within : (t : Tables) (runs : List ℕ) → ListsItems t → AreRunsOf t runs → (item : ℕ) → Contains (serial t) item
    → item < length runs
listed_within t runs lists are item m = let lt = (lists.items item).0 m in let each = are.each in omega (arith, lt, each)
