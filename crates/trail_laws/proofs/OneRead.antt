-- A read that is asked for is one step.
use Rattle.std.proofs.Common.{◌≡◌, ℕ, inl, inr, true, false, ◌&&◌, ◌==◌, List, Option, Some, None, refl, sym, ap, ap₂, ◌∙◌, subst, Contains}
use Rattle.std.proofs.lemmas.Bool.{and_parts, eqb-true, true≢false}
use Rattle.std.proofs.lemmas.Option.{same_Some}
use Rattle.vocabulary.specs.Prelude.{Lined, Ask, Move, Cell, Req, Op, Tables, tables_of, place_of, points_in, reqs_of, grid, Step, steps, id_of, mapped_cell, at_cells, move_of, data_moves, moves_of, is_read}
use Rattle.semantics.specs.declared.command.Command.TheVariants.{Check}
use Rattle.semantics.specs.declared.moves.Move.TheVariants as moves
use Rattle.semantics.specs.declared.tables.Op.TheVariants as operations
use Rattle.semantics.specs.DataOps.{DataAct, Copies, Puts, Resets, Folds, DataOp, data_of}
use Rattle.semantics.specs.Links.{is_asked, cell_read}
use Rattle.std.proofs.lemmas.List.Elements.{Contains-append_cases}
use Rattle.list_lemmas.proofs.lemmas.Contained.{member_map, Contains-nil}
use Rattle.list_lemmas.proofs.lemmas.Filtered.{of_filter}
use Rattle.log_laws.proofs.lemmas.Admitted.{IsFaultless, consistent}
use Rattle.log_laws.proofs.lemmas.Consistent.{two_reqs}
use Rattle.log_laws.proofs.lemmas.SerialOrder.{items_placed}
use Rattle.log_laws.proofs.lemmas.StepLists.{of_node}
use Rattle.log_laws.proofs.lemmas.OwnConflicts.{is_of, read_is, reads, changes, no_read}
use Rattle.trail_laws.proofs.lemmas.Runs.{are_runs, within_items, one_run}

-- ---- the read that is asked for

pub record Tells (ask : Ask) (m : Move) : Type 0 where
  pub task : ℕ
  pub req : ℕ
  pub cell : Cell
  pub is : m ≡ moves.Read task req cell
  pub of_task : task ≡ ask.task
  pub of_req : req ≡ ask.req
  pub at_point : cell.point ≡ ask.point
  pub at_field : cell.field ≡ ask.field

pub asked_tells : (ask : Ask) (m : Move) → is_asked ask m ≡ true → Tells ask m
asked_tells ask (moves.Read task req cell) e =
    let both = and_parts ((task == ask.task) && (req == ask.req)) ((cell.point == ask.point) && (cell.field == ask.field)) e in
    let first = and_parts (task == ask.task) (req == ask.req) both.0 in
    let second = and_parts (cell.point == ask.point) (cell.field == ask.field) both.1 in
    record {
      task = task;
      req = req;
      cell = cell;
      is = refl;
      of_task = eqb-true task ask.task first.0;
      of_req = eqb-true req ask.req first.1;
      at_point = eqb-true cell.point ask.point second.0;
      at_field = eqb-true cell.field ask.field second.1;
    }
asked_tells ask _ e = absurd cc

pub asked_reads : (ask : Ask) (m : Move) → is_asked ask m ≡ true → is_read m ≡ true
asked_reads ask (moves.Read task req cell) e = refl
asked_reads ask _ e = absurd cc

-- ---- the reads of an operation

record IsReadOf (t : Tables) (op : Op) (m : Move) : Type 0 where
  item : ℕ
  runs : op ≡ operations.Run item
  req : Req
  at : ℕ × ℕ
  is_req : Contains (reqs_of t item) req
  is : m ≡ moves.Read (id_of t item) req.number (mapped_cell t req at)

act_reads : (t : Tables) (act : DataAct) (p : ℕ × ℕ) → is_read (move_of t act p) ≡ false
act_reads t (Copies src dst) p = refl
act_reads t (Puts inst n) p = refl
act_reads t (Resets inst) p = refl
act_reads t (Folds src dst) p = refl

data_reads : (t : Tables) (o : Option DataOp) (m : Move) → Contains (data_moves t o) m → is_read m ≡ false
data_reads t None m is = absurd (Contains-nil is)
data_reads t (Some d) m is = let p = member_map (move_of t d.act) (grid (points_in t d.space) d.fields) m is in
    ap is_read p.2 ∙ act_reads t d.act p.0

read_of : (t : Tables) (op : Op) (m : Move) → Contains (moves_of t op) m → is_read m ≡ true → IsReadOf t op m
read_of t (operations.Run item) m is read =
    let task = id_of t item in
    let rs = reqs_of t item in
    elim (Contains-append_cases (at_cells t (reads task) rs) (at_cells t (changes task) rs) m is) [
      | inl r ↦
          let of = is_of t rs (reads task) m r in
          record {
            item = item;
            runs = refl;
            req = of.req;
            at = of.at;
            is_req = of.is_req;
            is =
                read_is task of.req.number of.req.access (mapped_cell t of.req of.at) m of.is_done;
          }
      | inr c ↦ absurd (true≢false (sym read ∙ no_read task t rs m (is_of t rs (changes task) m c)))
    ]
read_of t op m is read = absurd (true≢false (sym read ∙ data_reads t (data_of op) m is))

-- ---- two reads that are asked for

abbrev task_read : Move → ℕ
task_read (moves.Read task req cell) = task
task_read _ = 0

abbrev req_read : Move → ℕ
req_read (moves.Read task req cell) = req
req_read _ = 0

module _ (log : List Lined) (f : IsFaultless Check log) (ask : Ask) where
  abbrev t : Tables
  t = tables_of log

  -- Reads of one task, for one requirement, at one point and field are one.
  one_move : (i : ℕ) (q r : Req) (p s : ℕ × ℕ) → Contains (reqs_of t i) q → Contains (reqs_of t i) r → q.number ≡ r.number → p ≡ s
      → moves.Read (id_of t i) q.number (mapped_cell t q p) ≡ moves.Read (id_of t i) r.number (mapped_cell t r s)
  one_move i q r p s is_q is_r numbers places =
      let a = of_filter (λ (r : Req). r.item == i) t.reqs q is_q in
      let b = of_filter (λ (r : Req). r.item == i) t.reqs r is_r in
      elim (two_reqs t (consistent Check log f) q r a.0 b.0 (eqb-true q.item i a.1 ∙ sym (eqb-true r.item i b.1))) [
        | inl one ↦ ap₂ (λ (r : Req) p. moves.Read (id_of t i) r.number (mapped_cell t r p)) one places
        | inr two ↦ absurd (two.0 numbers)
      ]

  pub one_asked : (x y : Step) → Contains (steps t) x → Contains (steps t) y → is_asked ask x.move ≡ true → is_asked ask y.move ≡ true
      → x ≡ y
  one_asked x y in_x in_y e g =
      let a = of_node t _ x in_x in
      let b = of_node t _ y in_y in
      let m = read_of t a.node.op x.move a.is_move (asked_reads ask x.move e) in
      let n = read_of t b.node.op y.move b.is_move (asked_reads ask y.move g) in
      let p = asked_tells ask x.move e in
      let q = asked_tells ask y.move g in
      let runs = are_runs Check log f in
      let task_is : id_of t m.item ≡ id_of t n.item =
      sym (ap task_read m.is) ∙ ap task_read p.is ∙ p.of_task ∙ sym (sym (ap task_read n.is) ∙ ap task_read q.is ∙ q.of_task) in
      let place_m = items_placed log f.records m.item (within_items t runs x.node m.item a.node a.is_node m.runs) in
      let place_n = items_placed log f.records n.item (within_items t runs y.node n.item b.node b.is_node n.runs) in
      let item_is : n.item ≡ m.item = sym place_n ∙ ap (place_of t.items) (sym task_is) ∙ place_m in
      let nodes : x.node ≡ y.node = one_run t runs x.node y.node m.item a.node b.node a.is_node b.is_node m.runs (n.runs
      ∙ ap (λ i. operations.Run i) item_is) in
      let numbers : m.req.number ≡ n.req.number =
      sym (ap req_read m.is) ∙ ap req_read p.is ∙ p.of_req ∙ sym (sym (ap req_read n.is) ∙ ap req_read q.is ∙ q.of_req) in
      let cell_m : mapped_cell t m.req m.at ≡ p.cell = same_Some _ _ (sym (ap cell_read m.is) ∙ ap cell_read p.is) in
      let cell_n : mapped_cell t n.req n.at ≡ q.cell = same_Some _ _ (sym (ap cell_read n.is) ∙ ap cell_read q.is) in
      let point_is : m.at.0 ≡ n.at.0 = ap (λ (c : Cell). c.point) cell_m ∙ p.at_point
      ∙ sym (ap (λ (c : Cell). c.point) cell_n ∙ q.at_point) in
      let field_is : m.at.1 ≡ n.at.1 = ap (λ (c : Cell). c.field) cell_m ∙ p.at_field
      ∙ sym (ap (λ (c : Cell). c.field) cell_n ∙ q.at_field) in
      let move : x.move ≡ y.move = m.is ∙ one_move m.item m.req n.req m.at n.at m.is_req
      (subst (λ i. Contains (reqs_of t i) n.req) item_is n.is_req) numbers (λ i. (point_is i, field_is i))
      ∙ ap (λ i. moves.Read (id_of t i) n.req.number (mapped_cell t n.req n.at)) (sym item_is) ∙ sym n.is in
      λ i. record { node = nodes i; move = move i }
