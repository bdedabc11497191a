-- The cells that the steps of a log without a fault touch are cells of instances.
use Rattle.std.proofs.Common.{◌≡◌, ℕ, ◌==◌, ◌&&◌, cond, inl, inr, Bool, true, false, not, is_some, List, [], ◌∷◌, ◌++◌, map, filter, flat_map, find, Option, Some, None, option_map, refl, sym, ap, ap₂, ◌∙◌, subst, slice_get, Contains, arith}
use Rattle.std.specs.Prelude.{IfSome}
use Rattle.std.specs.List.{list_all, list_any}
use Rattle.std.specs.Option.{option_map_or}
use Rattle.std.proofs.lemmas.Bool.{not-false, false≢true, true≢false, or_parts, eqb-true, and_parts}
use Rattle.std.proofs.lemmas.List.Elements.{recursion_from_All, Contains-append_cases, Contains-push}
use Rattle.std.proofs.lemmas.Option.{same_Some}
use Rattle.vocabulary.specs.Prelude.{Rect, Priv, Record, Lined, Move, Req, Inst, Map, LogNode, Op, records_of, Tables, Space, place_of, with_space, with_record, no_tables, tables_of, is_in, is_within, points_in, reqs_of, grid, req_at, inst_at, cell_in, id_of, operator_of, moves_of, start, Value}
use Rattle.privilege.specs.declared.kinds.Priv.TheVariants as privileges
use Rattle.spy_grammar.specs.declared.code.Code.TheVariants as codes
use Rattle.spy_grammar.specs.declared.record.Record.TheVariants as records
use Rattle.semantics.specs.declared.moves.Move.TheVariants as moves
use Rattle.semantics.specs.declared.tables.Op.TheVariants as operations
use Rattle.semantics.specs.DataOps.{DataAct, Copies, Puts, Resets, Folds, DataOp, insts_of, data_of}
use Rattle.semantics.specs.Rules as rules
use Rattle.semantics.specs.Rules.{is_declared, names, space_id, lacks, is_not_covered, lacks_req}
use Rattle.semantics.specs.declared.command.Command.TheVariants.{Check}
use Rattle.semantics.specs.Faults.{unmapped_fault}
use Rattle.logs.specs.Faultless.{AreDeclared}
use Rattle.log_laws.proofs.lemmas.Members.{is_in_of, member_in}
use Rattle.log_laws.proofs.lemmas.Apart.{member_grid}
use Rattle.log_laws.proofs.lemmas.Consistent.{two_reqs}
use Rattle.log_laws.proofs.lemmas.Admitted.{Unbroken, rule_kept, by_records, no_broken_rule, IsFaultless, consistent, all_mapped}
use Rattle.inst_steps.specs.declared.act.Act.{Act}
use Rattle.inst_steps.specs.declared.act.Act.TheVariants as acts
use Rattle.point_laws.specs.Cut.{kept, cut_to}
use Rattle.point_laws.proofs.lemmas.Cuts.{points_cut_to}
use Rattle.inst_steps.specs.Sweeps.{Pass, pass, move_at, moves_of_pass, reading, changing, pass_for, passes_of, cell_of}
use Rattle.inst_steps.specs.Stores.{Contents, IsStart, HasCells, has_cell}
use Rattle.inst_steps.specs.Celled.{AreOfInsts, HasCellsOf}
use Rattle.inst_steps.proofs.Sweeping.{pass_cut, sweeps_are, passes_cut}
use Rattle.inst_steps.specs.Stepping.{moves_at}
use Rattle.list_lemmas.proofs.lemmas.Contained.{each_more, none_at, member_flat, member_map, all_at, found_at, find_any, find_still, only, Contains-nil}
use Rattle.list_lemmas.proofs.lemmas.Filtered.{of_filter, in_filter}
use Rattle.list_lemmas.proofs.lemmas.Firsts.{contains_at, cases_option}

-- ---- an instance has the points of a space, and fields

abbrev Found : List Space → ℕ → Space → Type 0
Found spaces id s = find (λ (s : Space). s.id == id) spaces ≡ Some s

record Within (spaces : List Space) (insts : List Inst) (space : ℕ) (fields : List ℕ) (id : ℕ) : Type 0 where
  s : Space
  in_space : Found spaces space s
  i : Inst
  in_inst : find (λ (i : Inst). i.id == id) insts ≡ Some i
  si : Space
  of_inst : Found spaces i.space si
  points : is_within s.points si.points ≡ true
  covered : is_within fields i.fields ≡ true

more_spaces : (spaces : List Space) (insts : List Inst) (x : Space) (space : ℕ) (fields : List ℕ) (id : ℕ)
    → Within spaces insts space fields id → Within (spaces ++ x ∷ []) insts space fields id
more_spaces spaces insts x space fields id w = record {
  s = w.s;
  in_space = find_still (λ (s : Space). s.id == space) spaces (x ∷ []) w.s w.in_space;
  i = w.i;
  in_inst = w.in_inst;
  si = w.si;
  of_inst = find_still (λ (s : Space). s.id == w.i.space) spaces (x ∷ []) w.si w.of_inst;
  points = w.points;
  covered = w.covered;
}

more_insts : (spaces : List Space) (insts : List Inst) (x : Inst) (space : ℕ) (fields : List ℕ) (id : ℕ)
    → Within spaces insts space fields id → Within spaces (insts ++ x ∷ []) space fields id
more_insts spaces insts x space fields id w = record {
  s = w.s;
  in_space = w.in_space;
  i = w.i;
  in_inst = find_still (λ (i : Inst). i.id == id) insts (x ∷ []) w.i w.in_inst;
  si = w.si;
  of_inst = w.of_inst;
  points = w.points;
  covered = w.covered;
}

-- ---- the tables so far

abbrev Spaced : Tables → ℕ → Type 0
Spaced t id = (s : Space) × Found t.spaces id s

abbrev Mapped : Tables → Map → Type 0
Mapped t m = (r : Req) × (req_at t m.item m.number ≡ Some r) × Within t.spaces t.insts r.space m.fields m.inst

abbrev OpWithin : List Space → List Inst → Op → Type 0
OpWithin ss is op = (d : DataOp) → data_of op ≡ Some d → (x : ℕ) → Contains (insts_of d.act) x → Within ss is d.space d.fields x

record Covers (t : Tables) : Type 0 where
  insts : (i : Inst) → Contains t.insts i → Spaced t i.space
  reqs : (r : Req) → Contains t.reqs r → Spaced t r.space
  maps : (x : Map) → Contains t.maps x → Mapped t x
  nodes : (n : LogNode) → Contains t.nodes n → OpWithin t.spaces t.insts n.op

more_op : (ss us : List Space) (is js : List Inst)
    → ((space : ℕ) (fields : List ℕ) (id : ℕ) → Within ss is space fields id → Within us js space fields id) → (op : Op) → OpWithin ss is op
    → OpWithin us js op
more_op ss us is js more op w d e id m = more d.space d.fields id (w d e id m)

spaced : (t : Tables) (id : ℕ) → is_declared t (space_id id) ≡ true → Spaced t id
spaced t id e = find_any (λ (s : Space). s.id == id) t.spaces e

within : (t : Tables) → Covers t → (space : ℕ) (fields : List ℕ) (id : ℕ) → Spaced t space → lacks t (points_in t space) fields id ≡ false
    → Within t.spaces t.insts space fields id
within t h space fields id known none = elim (cases_option (inst_at t id)) [
  | inl missing ↦ absurd
      (false≢true (sym (ap (λ o. option_map_or (λ (i : Inst). is_within (points_in t space) (points_in t i.space)
      && is_within fields i.fields) o false) missing) ∙ not-false _ none))
  | inr some ↦
      let i = some.0 in
      let own = h.insts i (found_at (λ (i : Inst). i.id == id) t.insts i some.1).0 in
      let both : (is_within (points_in t space) (points_in t i.space) && is_within fields i.fields) ≡ true =
      sym (ap (λ o. option_map_or (λ (i : Inst). is_within (points_in t space) (points_in t i.space)
      && is_within fields i.fields) o false) some.1) ∙ not-false _ none in
      let points = (and_parts (is_within (points_in t space) (points_in t i.space)) (is_within fields i.fields) both).0 in
      record {
        s = known.0;
        in_space = known.1;
        i = i;
        in_inst = some.1;
        si = own.0;
        of_inst = own.1;
        points = sym (ap₂ (λ o p. is_within (option_map_or (λ (s : Space). s.points) o [])
            (option_map_or (λ (s : Space). s.points) p [])) known.1 own.1) ∙ points;
        covered = (and_parts (is_within (points_in t space) (points_in t i.space)) (is_within fields i.fields) both).1;
      }
]

named_there : (t : Tables) → Covers t → (item number : ℕ) (fields : List ℕ) (id : ℕ) → not (is_some (req_at t item number)) ≡ false
    → lacks t (option_map_or (λ (r : Req). points_in t r.space) (req_at t item number) []) fields id ≡ false
    → (r : Req) × (req_at t item number ≡ Some r) × Within t.spaces t.insts r.space fields id
named_there t h item number fields id there none = elim (cases_option (req_at t item number)) [
  | inl missing ↦ absurd (true≢false (sym (ap (λ (o : Option Req). not (is_some o)) missing) ∙ there))
  | inr some ↦
      let r = some.0 in (
        r,
        some.1,
        within t h r.space fields id (h.reqs r (found_at (λ (r : Req). (r.item == item) && (r.number == number)) t.reqs r some.1).0)
            (sym (ap (λ o. lacks t (option_map_or (λ (r : Req). points_in t r.space) o []) fields id) some.1) ∙ none),
      )
]

record Ruled (t : Tables) (r : Record) : Type 0 where
  declared : list_all (is_declared t) (names r) ≡ true
  named : lacks_req t r ≡ false
  covered : is_not_covered t r ≡ false

node_more : (t : Tables) (n : LogNode) → Covers t → OpWithin t.spaces t.insts n.op → Covers (record t { nodes = t.nodes ++ n ∷ [] })
node_more t n h w = record {
  insts = h.insts;
  reqs = h.reqs;
  maps = h.maps;
  nodes =
      each_more (λ (n : LogNode). OpWithin t.spaces t.insts n.op) t.nodes n h.nodes w;
}

op_within : (t : Tables) → Covers t → (act : DataAct) (space : ℕ) (fields : List ℕ)
    → list_all (is_declared t) (map (λ id. rules.inst_id id) (insts_of act) ++ space_id space ∷ []) ≡ true
    → list_any (lacks t (points_in t space) fields) (insts_of act) ≡ false → (d : DataOp)
    → Some (let x : DataOp = record { act = act; space = space; fields = fields } in x) ≡ Some d
    → (x : ℕ) → Contains (insts_of d.act) x → Within t.spaces t.insts d.space d.fields x
op_within t h act space fields known none d e =
    let insts = map (λ id. rules.inst_id id) (insts_of act) in
    let declared = spaced t space (all_at (is_declared t) (insts ++ space_id space ∷ []) (space_id space) known
    (Contains-push insts (space_id space))) in
    subst (λ (d : DataOp). (id : ℕ) → Contains (insts_of d.act) id → Within t.spaces t.insts d.space d.fields id) (same_Some _ d e)
    (λ id m. within t h space fields id declared (none_at (lacks t (points_in t space) fields) (insts_of act) id none m))

space_covers : (t : Tables) (id : ℕ) (points : List ℕ) (rects : List Rect) → Covers t → Covers (with_space t id points rects)
space_covers t id points rects h = record {
  insts = λ i m. let f = h.insts i m in (f.0, find_still (λ (s : Space). s.id == i.space) t.spaces _ f.0 f.1);
  reqs = λ r m. let f = h.reqs r m in (f.0, find_still (λ (s : Space). s.id == r.space) t.spaces _ f.0 f.1);
  maps = λ n m. let f = h.maps n m in (f.0, f.1, more_spaces t.spaces t.insts _ f.0.space n.fields n.inst f.2);
  nodes = λ n m. more_op t.spaces _ t.insts t.insts (more_spaces t.spaces t.insts _) n.op (h.nodes n m);
}

more_covers : (t : Tables) (line : ℕ) (r : Record) → Ruled t r → Covers t → Covers (with_record t line r)
more_covers t line (records.Ispace id set) k h = space_covers t id _ _ h
more_covers t line (records.Plane id quads) k h = space_covers t id _ _ h
more_covers t line (records.Req task tree space fields access atomic) k h = record {
  insts = h.insts;
  reqs = each_more (λ (r : Req). Spaced t r.space) t.reqs _ h.reqs
      (spaced t space (all_at (is_declared t) (names (records.Req task tree space fields access atomic)) (space_id space) k.declared
      (2, omega arith, refl)));
  maps = λ n m. let f = h.maps n m in (f.0, find_still (λ (r : Req). (r.item == n.item) && (r.number == n.number)) t.reqs _ f.0 f.1, f.2);
  nodes = h.nodes;
}
more_covers t line (records.Inst id tree space fields kind) k h = record {
  insts = each_more (λ (i : Inst). Spaced t i.space) t.insts _ h.insts
      (spaced t space (all_at (is_declared t) (names (records.Inst id tree space fields kind)) (space_id space) k.declared
      (1, omega arith, refl)));
  reqs = h.reqs;
  maps = λ n m. let f = h.maps n m in (f.0, f.1, more_insts t.spaces t.insts _ f.0.space n.fields n.inst f.2);
  nodes = λ n m. more_op t.spaces t.spaces t.insts _ (more_insts t.spaces t.insts _) n.op (h.nodes n m);
}
more_covers t line (records.Map task number fields inst) k h = record {
  insts = h.insts;
  reqs = h.reqs;
  maps = each_more (Mapped t) t.maps _ h.maps (named_there t h (place_of t.items task) number fields inst k.named k.covered);
  nodes = h.nodes;
}
more_covers t line (records.Copy src dst space fields done waits) k h =
    node_more t _ h (op_within t h (Copies src dst) space fields k.declared k.covered)
more_covers t line (records.Put inst space fields n done waits) k h =
    node_more t _ h (op_within t h (Puts inst n) space fields k.declared k.covered)
more_covers t line (records.Reset inst space fields done waits) k h =
    node_more t _ h (op_within t h (Resets inst) space fields k.declared k.covered)
more_covers t line (records.Fold src dst space fields done waits) k h =
    node_more t _ h (op_within t h (Folds src dst) space fields k.declared k.covered)
more_covers t line (records.Run task done waits) k h = node_more t _ h (λ d e. absurd cc)
more_covers t line (records.Merge done waits) k h = node_more t _ h (λ d e. absurd cc)
more_covers t line _ k h = record { insts = h.insts; reqs = h.reqs; maps = h.maps; nodes = h.nodes }

nothing_covered : Covers no_tables
nothing_covered = record {
  insts = λ i m. absurd (Contains-nil m);
  reqs = λ r m. absurd (Contains-nil m);
  maps = λ n m. absurd (Contains-nil m);
  nodes = λ n m. absurd (Contains-nil m);
}

ruled : (log : List Record) (earlier : List Lined) (r : Record) → Unbroken log earlier r → Ruled (tables_of earlier) r
ruled log earlier r u =
    let known = or_parts (not (list_all (is_declared (tables_of earlier)) (names r))) _ (rule_kept codes.UnknownId refl u) in
    record { declared = not-false _ known.0; named = known.1; covered = rule_kept codes.NotCovered refl u }

covers : (log : List Lined) → IsFaultless Check log → Covers (tables_of log)
covers log f = by_records (λ r. Unit {0}) Covers (records_of log)
    (λ earlier l u _. more_covers (tables_of earlier) l.line l.rec (ruled (records_of log) earlier l.rec u))
    [] log (recursion_from_All _ (records_of log) (λ k d lt. tt)) f.records nothing_covered

-- ---- the cells of a sweep

kept_in : (listed : Option (List ℕ)) (xs ys : List ℕ) (p : ℕ) → is_within xs ys ≡ true → Contains (kept listed xs) p
    → is_in (kept listed ys) p ≡ true
kept_in (Some ps) xs ys p w m =
    let a = of_filter (is_in ps) xs p m in
    is_in_of (filter (is_in ps) ys) p (in_filter (is_in ps) ys p (member_in ys p (all_at (is_in ys) xs p w a.0)) a.1)
kept_in None xs ys p w m = all_at (is_in ys) xs p w m

held : (t : Tables) (listed : Option (List ℕ)) (space : ℕ) (fields : List ℕ) (id : ℕ) → Within t.spaces t.insts space fields id
    → (q : ℕ × ℕ) → Contains (kept listed (points_in t space)) q.0 → Contains fields q.1
    → has_cell (cut_to listed t) (cell_in id q) ≡ true
held t listed space fields id w q point field =
    let here : inst_at (cut_to listed t) id ≡ Some w.i = w.in_inst in
    let there : points_in (cut_to listed t) w.i.space ≡ kept listed w.si.points =
    points_cut_to listed t w.i.space ∙ ap (λ o. kept listed (option_map_or (λ (s : Space). s.points) o [])) w.of_inst in
    let at : Contains (kept listed w.s.points) q.0 =
    subst (λ o. Contains (kept listed (option_map_or (λ (s : Space). s.points) o [])) q.0) w.in_space point in
    rw (here, there, kept_in listed w.s.points w.si.points q.0 w.points at, all_at (is_in w.i.fields) fields q.1 w.covered field) refl

abbrev Held : Tables → Option (List ℕ) → Act → ℕ → List ℕ → Type 0
Held t listed act space fields = (q : ℕ × ℕ) → Contains (kept listed (points_in t space)) q.0 → Contains fields q.1
    → AreOfInsts (cut_to listed t) (move_at t act q)

module _ (log : List Lined) (f : IsFaultless Check log) (listed : Option (List ℕ)) where
  req_held : (r : Req) → Contains (tables_of log).reqs r → (q : ℕ × ℕ) → Contains (kept listed (points_in (tables_of log) r.space)) q.0
      → Contains r.fields q.1 → has_cell (cut_to listed (tables_of log)) (cell_of (tables_of log) r.item r.number q) ≡ true
  req_held r own q point field =
      let t = tables_of log in
      let test : Map → Bool = λ (m : Map). (m.item == r.item) && ((m.number == r.number) && is_in m.fields q.1) in
      elim (cases_option (find test t.maps)) [
        | inl missing ↦ absurd (false≢true (sym (ap (λ o. is_some (option_map (λ (m : Map). m.inst) o)) missing)
            ∙ all_mapped log f r q.1 own field))
        | inr some ↦
            let m = some.0 in
            let at = found_at test t.maps m some.1 in
            let rest = (and_parts (m.item == r.item) ((m.number == r.number) && is_in m.fields q.1) at.1).1 in
            let item = eqb-true m.item r.item (and_parts (m.item == r.item) ((m.number == r.number) && is_in m.fields q.1) at.1).0 in
            let number = eqb-true m.number r.number (and_parts (m.number == r.number) (is_in m.fields q.1) rest).0 in
            let in_fields = member_in m.fields q.1 (and_parts (m.number == r.number) (is_in m.fields q.1) rest).1 in
            let n = (covers log f).maps m at.0 in
            let same = one_req log f n.0 r m n.1 own item number in
            rw some.1 (held t listed n.0.space m.fields m.inst n.2 q
            (subst (λ (r : Req). Contains (kept listed (points_in t r.space)) q.0) (sym same) point) in_fields)
      ]
    where
      one_req : (log : List Lined) (f : IsFaultless Check log) (q r : Req) (m : Map) → req_at (tables_of log) m.item m.number ≡ Some q
          → Contains (tables_of log).reqs r → m.item ≡ r.item → m.number ≡ r.number → q ≡ r
      one_req log f q r m found own item number =
          let at = found_at (λ (q : Req). (q.item == m.item) && (q.number == m.number)) (tables_of log).reqs q found in
          let i = eqb-true q.item m.item (and_parts (q.item == m.item) (q.number == m.number) at.1).0 in
          let n = eqb-true q.number m.number (and_parts (q.item == m.item) (q.number == m.number) at.1).1 in
          elim (two_reqs (tables_of log) (consistent Check log f) q r at.0 own (i ∙ item)) [
            | inl is ↦ is
            | inr apart ↦
                absurd (apart.0 (n ∙ number))
          ]

  read_held : (task : ℕ) (r : Req) → Contains (tables_of log).reqs r → (a : Priv) → r.access ≡ a → (p : Pass)
      → pass_for r (reading (tables_of log) task r) ≡ Some p → Held (tables_of log) listed p.act p.space p.fields
  read_held task r own privileges.Ro e p is = subst
      (λ (o : Option Pass). IfSome o (λ (p : Pass). Held (tables_of log) listed p.act p.space p.fields)) (rw e at is) (req_held r own)
  read_held task r own privileges.Rw e p is = subst
      (λ (o : Option Pass). IfSome o (λ (p : Pass). Held (tables_of log) listed p.act p.space p.fields)) (rw e at is) (req_held r own)
  read_held task r own privileges.Wd e p is = absurd (let bad = rw e at is in cc)
  read_held task r own (privileges.Red op) e p is = absurd (let bad = rw e at is in cc)

  change_held : (task : ℕ) (r : Req) → Contains (tables_of log).reqs r → (a : Priv) → r.access ≡ a → (p : Pass)
      → pass_for r (changing (tables_of log) task r) ≡ Some p → Held (tables_of log) listed p.act p.space p.fields
  change_held task r own privileges.Ro e p is = absurd (let bad = rw e at is in cc)
  change_held task r own privileges.Rw e p is =
      subst (λ (o : Option Pass). IfSome o (λ (p : Pass). Held (tables_of log) listed p.act p.space p.fields)) (rw e at is) (req_held r own)
  change_held task r own privileges.Wd e p is =
      subst (λ (o : Option Pass). IfSome o (λ (p : Pass). Held (tables_of log) listed p.act p.space p.fields)) (rw e at is) (req_held r own)
  change_held task r own (privileges.Red op) e p is =
      subst (λ (o : Option Pass). IfSome o (λ (p : Pass). Held (tables_of log) listed p.act p.space p.fields)) (rw e at is) (req_held r own)

  only_held : (p q : Pass) → Held (tables_of log) listed q.act q.space q.fields → Contains (Some q ∷ []) (Some p)
      → Held (tables_of log) listed p.act p.space p.fields
  only_held p q w m = subst (λ (o : Option Pass). IfSome o (λ (p : Pass). Held (tables_of log) listed p.act p.space p.fields))
      (sym (only m)) w

  pass_held : (op : Op) → OpWithin (tables_of log).spaces (tables_of log).insts op → (p : Pass)
      → Contains (passes_of (tables_of log) op) (Some p) → Held (tables_of log) listed p.act p.space p.fields
  pass_held (operations.Run item) w p m =
      let t = tables_of log in
      let task = id_of t item in
      let reads : Req → Option Pass = λ r. pass_for r (reading t task r) in
      let changes : Req → Option Pass = λ r. pass_for r (changing t task r) in
      let own : (r : Req) → Contains (reqs_of t item) r → Contains t.reqs r =
      λ r m. (of_filter (λ (r : Req). r.item == item) t.reqs r m).0 in
      elim (Contains-append_cases (map reads (reqs_of t item)) (map changes (reqs_of t item)) (Some p) m) [
        | inl a ↦ let r = member_map reads (reqs_of t item) (Some p) a in read_held task r.0 (own r.0 r.1) r.0.access refl p (sym r.2)
        | inr b ↦ let r = member_map changes (reqs_of t item) (Some p) b in change_held task r.0 (own r.0 r.1) r.0.access refl p (sym r.2)
      ]
  pass_held (operations.Copy src dst space fields) w p m =
      only_held p (pass (acts.Copy src dst) space fields)
      (λ q point field. (
        held (tables_of log) listed space fields src (w _ refl src (0, omega arith, refl)) q point field,
        held (tables_of log) listed space fields dst (w _ refl dst (1, omega arith, refl)) q point field,
      )) m
  pass_held (operations.Put inst space fields n) w p m =
      only_held p (pass (acts.Put inst n) space fields) (held (tables_of log) listed space fields inst (w _ refl inst (0, omega arith, refl))) m
  pass_held (operations.Reset inst space fields) w p m =
      only_held p (pass (acts.Reset inst) space fields) (held (tables_of log) listed space fields inst (w _ refl inst (0, omega arith, refl))) m
  pass_held (operations.Fold src dst space fields) w p m =
      only_held p (pass (acts.Fold (operator_of (tables_of log) src) src dst) space fields)
      (λ q point field. (
        held (tables_of log) listed space fields src (w _ refl src (0, omega arith, refl)) q point field,
        held (tables_of log) listed space fields dst (w _ refl dst (1, omega arith, refl)) q point field,
      )) m
  pass_held operations.Merge w p m = absurd (Contains-nil m)

  one_held : (op : Op) → OpWithin (tables_of log).spaces (tables_of log).insts op → (o : Option Pass)
      → Contains (passes_of (tables_of log) op) o → (step : Move) → Contains (moves_of_pass (cut_to listed (tables_of log)) o) step
      → AreOfInsts (cut_to listed (tables_of log)) step
  one_held op w None m step n = absurd (Contains-nil n)
  one_held op w (Some p) m step n =
      let t = tables_of log in
      let points = kept listed (points_in t p.space) in
      let q = member_map (move_at t p.act) (grid points p.fields) step (subst (λ ms. Contains ms step) (pass_cut listed t p) n) in
      let at = member_grid points p.fields q.0 q.1 in
      subst (AreOfInsts (cut_to listed t)) (sym q.2) (pass_held op w p m q.0 at.0 at.1)

  op_held : (op : Op) → OpWithin (tables_of log).spaces (tables_of log).insts op → (step : Move)
      → Contains (moves_of (cut_to listed (tables_of log)) op) step → AreOfInsts (cut_to listed (tables_of log)) step
  op_held op w step m =
      let t = tables_of log in
      let swept : moves_of (cut_to listed t) op ≡ flat_map (moves_of_pass (cut_to listed t)) (passes_of t op) =
      sym (sweeps_are (cut_to listed t) op) ∙ ap (flat_map (moves_of_pass (cut_to listed t))) (passes_cut listed t op) in
      let o = member_flat (moves_of_pass (cut_to listed t)) (passes_of t op) step (subst (λ ms. Contains ms step) swept m) in
      one_held op w o.0 o.1 step o.2

  node_held : (node : ℕ) (step : Move) → Contains (moves_at (cut_to listed (tables_of log)) node) step
      → AreOfInsts (cut_to listed (tables_of log)) step
  node_held node step m =
      let t = tables_of log in
      let of : Option LogNode → List Move = λ o. option_map_or (λ (n : LogNode). moves_of (cut_to listed t) n.op) o [] in
      elim (cases_option (slice_get t.nodes node)) [
        | inl missing ↦ absurd (Contains-nil (subst (λ o. Contains (of o) step) missing m))
        | inr some ↦ op_held some.0.op ((covers log f).nodes some.0 (contains_at t.nodes node some.0 some.1)) step
            (subst (λ o. Contains (of o) step) some.1 m)
      ]

-- The steps of nodes touch cells of instances alone, at all points and at listed ones.
sound : (t : Tables) (d : AreDeclared t) → unmapped_fault (tables_of d.log) ≡ None → IsFaultless Check d.log
sound t d e = record { records = no_broken_rule d.lines d.log d.faultless; maps = e }

pub steps_of_insts : (t : Tables) → AreDeclared t → unmapped_fault t ≡ None → (listed : Option (List ℕ)) (node : ℕ) (step : Move)
    → Contains (moves_at (cut_to listed t) node) step → AreOfInsts (cut_to listed t) step
steps_of_insts t d e listed node step = subst (λ u. unmapped_fault u ≡ None → Contains (moves_at (cut_to listed u) node) step
    → AreOfInsts (cut_to listed u) step) (sym d.tables)
    (λ e c. node_held d.log (sound t d e) listed node step c) e

-- ---- stores that have these cells

pub cells_at_start : (t : Tables) (m : Contents) → IsStart t m → HasCellsOf t m
cells_at_start t m is c = ap is_some (is c) ∙ by (has_cell t c) (start t c)
  where
    by : (b : Bool) (v : Value) → is_some (cond b (Some v) None) ≡ b
    by true v = refl
    by false v = refl

pub cells_there : (t : Tables) (m : Contents) (step : Move) → HasCellsOf t m → AreOfInsts t step → HasCells m step
cells_there t m (moves.Read task req cell) has of = has cell ∙ of
cells_there t m (moves.Write task cell) has of = has cell ∙ of
cells_there t m (moves.Reduce task req op cell) has of = has cell ∙ of
cells_there t m (moves.Copy from to) has of = (has from ∙ of.0, has to ∙ of.1)
cells_there t m (moves.Put cell n) has of = has cell ∙ of
cells_there t m (moves.Reset cell) has of = has cell ∙ of
cells_there t m (moves.Fold op from to) has of = (has from ∙ of.0, has to ∙ of.1)
