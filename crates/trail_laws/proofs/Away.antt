-- In a log without a fault only reduction instances are reset, and none of these is read by a task or copied.
use Rattle.std.proofs.Common.{◌≡◌, ℕ, ◌==◌, ◌&&◌, inl, inr, Bool, true, false, not, List, [], ◌∷◌, ◌++◌, flat_map, find, Option, Some, None, is_some, refl, sym, ap, ◌∙◌, subst, arith, Contains}
use Rattle.std.specs.Prelude.{IfSome}
use Rattle.std.specs.List.{list_all}
use Rattle.std.specs.Option.{option_map_or}
use Rattle.std.proofs.lemmas.Bool.{or_parts, not-false, true≢false, cond_both}
use Rattle.std.proofs.lemmas.Bool.Decides.{nat_tests}
use Rattle.std.proofs.lemmas.List.Elements.{recursion_from_All, Contains-append_cases}
use Rattle.vocabulary.specs.Prelude.{Priv, may_read, InstKind, Record, Lined, Cell, Move, Req, Inst, Map, LogNode, Op, records_of, Tables, place_of, with_record, tables_of, is_in, points_in, reqs_of, grid, req_grid, req_at, Step, steps, id_of, inst_at, mapped, mapped_cell, at_cells, reads_by, changes_by, run_moves, move_of, data_moves, moves_of}
use Rattle.privilege.specs.declared.kinds.Priv.TheVariants as privileges
use Rattle.spy_words.specs.declared.access.InstKind.TheVariants as layouts
use Rattle.spy_grammar.specs.declared.code.Code.TheVariants as codes
use Rattle.spy_grammar.specs.declared.record.Record.TheVariants as records
use Rattle.semantics.specs.declared.command.Command.TheVariants.{Check}
use Rattle.semantics.specs.declared.moves.Move.TheVariants as moves
use Rattle.semantics.specs.declared.tables.Op.TheVariants as operations
use Rattle.semantics.specs.DataOps.{DataAct, Copies, Puts, Resets, Folds, DataOp, data_of}
use Rattle.semantics.specs.Rules.{is_declared, is_reduction, reduces_in, is_of_wrong_kind, fits, names, inst_id}
use Rattle.list_lemmas.proofs.lemmas.Contained.{each_more, member_flat, member_map, found_at, all_at, find_any, find_still, only, Contains-nil}
use Rattle.list_lemmas.proofs.lemmas.Filtered.{of_filter}
use Rattle.list_lemmas.proofs.lemmas.Firsts.{contains_at, cases_option}
use Rattle.log_laws.proofs.lemmas.Apart.{member_grid}
use Rattle.log_laws.proofs.lemmas.Consistent.{AreConsistent, two_reqs}
use Rattle.log_laws.proofs.lemmas.StepLists.{of_node}
use Rattle.log_laws.proofs.lemmas.Admitted.{Unbroken, rule_kept, keeps_of, IsFaultless, by_records, consistent, all_mapped}
use Rattle.trail_laws.proofs.LastPut.{KeepsAway}

-- An instance is there, and is or is none that reduces.
record IsOfKind (insts : List Inst) (id : ℕ) (reduces : Bool) : Type 0 where
  inst : Inst
  found : find (λ (i : Inst). i.id == id) insts ≡ Some inst
  kind : is_reduction inst.kind ≡ reduces

-- What is copied or reset is of the right kind.
abbrev ActKept : List Inst → DataAct → Type 0
ActKept insts (Copies src dst) = IsOfKind insts src false
ActKept insts (Resets inst) = IsOfKind insts inst true
ActKept insts _ = Unit {0}

abbrev OpKept : List Inst → Op → Type 0
OpKept insts op = IfSome (data_of op) (λ (d : DataOp). ActKept insts d.act)

-- A map names a requirement, and an instance that fits it.
record IsFit (t : Tables) (m : Map) : Type 0 where
  req : Req
  inst : Inst
  is_req : req_at t m.item m.number ≡ Some req
  is_inst : inst_at t m.inst ≡ Some inst
  fit : fits req.access inst.kind ≡ true

record AreKept (t : Tables) : Type 0 where
  maps : (x : Map) → Contains t.maps x → IsFit t x
  nodes : (n : LogNode) → Contains t.nodes n → OpKept t.insts n.op

kind_still : (insts : List Inst) (x : Inst) (id : ℕ) (b : Bool) → IsOfKind insts id b → IsOfKind (insts ++ x ∷ []) id b
kind_still insts x id b k = record {
  inst = k.inst;
  found = find_still (λ (i : Inst). i.id == id) insts (x ∷ []) k.inst k.found;
  kind =
      k.kind;
}

more_insts : (insts : List Inst) (x : Inst) (op : Op) → OpKept insts op → OpKept (insts ++ x ∷ []) op
more_insts insts x (operations.Copy src dst space fields) h = kind_still insts x src false h
more_insts insts x (operations.Reset inst space fields) h = kind_still insts x inst true h
more_insts insts x (operations.Run item) h = tt
more_insts insts x (operations.Fold src dst space fields) h = tt
more_insts insts x (operations.Put inst space fields n) h = tt
more_insts insts x operations.Merge h = tt

of_kind : (t : Tables) (id : ℕ) (b : Bool) → is_declared t (inst_id id) ≡ true → reduces_in t id ≡ b → IsOfKind t.insts id b
of_kind t id b there e =
    let f = find_any (λ (i : Inst). i.id == id) t.insts there in
    record { inst = f.0; found = f.1; kind = sym (ap (λ o. option_map_or (λ (i : Inst). is_reduction i.kind) o false) f.1) ∙ e }

record Ruled (t : Tables) (r : Record) : Type 0 where
  declared : list_all (is_declared t) (names r) ≡ true
  kinds : is_of_wrong_kind t r ≡ false

-- Where a map keeps the rule on kinds, its requirement and its instance are found.
fit_by : (o : Option Req) (p : Option Inst) → not
    (option_map_or (λ (r : Req). option_map_or (λ (i : Inst). fits r.access i.kind) p false) o false) ≡ false
    → (r : Req) × (i : Inst) × (o ≡ Some r) × (p ≡ Some i) × (fits r.access i.kind ≡ true)
fit_by (Some r) (Some i) e = (r, i, refl, refl, not-false _ e)
fit_by _ _ e = absurd cc

with_op : (t : Tables) (n : LogNode) → AreKept t → OpKept t.insts n.op → AreKept (record t { nodes = t.nodes ++ n ∷ [] })
with_op t n h k = record {
  maps = λ m is. let f = h.maps m is in
      record { req = f.req; inst = f.inst; is_req = f.is_req; is_inst = f.is_inst; fit = f.fit };
  nodes =
      each_more (λ (n : LogNode). OpKept t.insts n.op) t.nodes n h.nodes k;
}

kept_with : (t : Tables) (line : ℕ) (r : Record) → Ruled t r → AreKept t → AreKept (with_record t line r)
kept_with t line (records.Req task tree space fields access atomic) k h = record {
  maps = λ m is. let f = h.maps m is in record {
    req = f.req;
    inst = f.inst;
    is_req =
        find_still (λ (r : Req). (r.item == m.item) && (r.number == m.number)) t.reqs _ f.req f.is_req;
    is_inst = f.is_inst;
    fit = f.fit;
  };
  nodes = h.nodes;
}
kept_with t line (records.Inst id tree space fields kind) k h = record {
  maps = λ m is. let f = h.maps m is in record {
    req = f.req;
    inst = f.inst;
    is_req = f.is_req;
    is_inst =
        find_still (λ (i : Inst). i.id == m.inst) t.insts _ f.inst f.is_inst;
    fit = f.fit;
  };
  nodes = λ n m. more_insts t.insts _ n.op (h.nodes n m);
}
kept_with t line (records.Map task number fields inst) k h =
    let f = fit_by _ _ k.kinds in
    let fit : IsFit t (record { item = place_of t.items task; number = number; fields = fields; inst = inst }) =
    record { req = f.0; inst = f.1; is_req = f.2; is_inst = f.3; fit = f.4 } in
    let all = each_more (IsFit t) t.maps _ h.maps fit in
    record {
      maps = λ m is. let f = all m is in record { req = f.req; inst = f.inst; is_req = f.is_req; is_inst = f.is_inst; fit = f.fit };
      nodes = h.nodes;
    }
kept_with t line (records.Copy src dst space fields done waits) k h =
    let one = or_parts _ (src == dst) k.kinds in
    let two = or_parts (reduces_in t src) (reduces_in t dst) one.0 in
    with_op t _ h (of_kind t src false (all_at (is_declared t) (names (records.Copy src dst space fields done waits))
    (inst_id src) k.declared (0, omega arith, refl)) two.0)
kept_with t line (records.Reset inst space fields done waits) k h =
    with_op t _ h (of_kind t inst true (all_at (is_declared t) (names (records.Reset inst space fields done waits))
    (inst_id inst) k.declared (0, omega arith, refl)) (not-false _ k.kinds))
kept_with t line (records.Run task done waits) k h = with_op t _ h tt
kept_with t line (records.Fold src dst space fields done waits) k h = with_op t _ h tt
kept_with t line (records.Put inst space fields n done waits) k h = with_op t _ h tt
kept_with t line (records.Merge done waits) k h = with_op t _ h tt
kept_with t line _ k h = record {
  maps = λ m is. let f = h.maps m is in
      record { req = f.req; inst = f.inst; is_req = f.is_req; is_inst = f.is_inst; fit = f.fit };
  nodes = h.nodes;
}

ruled : (log : List Record) (earlier : List Lined) (r : Record) → Unbroken log earlier r → Ruled (tables_of earlier) r
ruled log earlier r u = record { declared = (keeps_of log earlier r u).declared; kinds = rule_kept codes.WrongKind refl u }

kept : (log : List Lined) → IsFaultless Check log → AreKept (tables_of log)
kept log f = by_records (λ r. Unit {0}) AreKept (records_of log)
    (λ earlier l u _. kept_with (tables_of earlier) l.line l.rec (ruled (records_of log) earlier l.rec u))
    [] log (recursion_from_All _ (records_of log) (λ k d lt. tt)) f.records (record { maps = λ m is. absurd (Contains-nil is); nodes = λ n m. absurd (Contains-nil m) })

-- ---- moves

kind_is : (t : Tables) (id : ℕ) (b : Bool) → IsOfKind t.insts id b → reduces_in t id ≡ b
kind_is t id b k = ap (λ o. option_map_or (λ (i : Inst). is_reduction i.kind) o false) k.found ∙ k.kind

-- What fits a requirement that reads does not reduce.
no_reduction : (p : Priv) (kind : InstKind) → may_read p ≡ true → fits p kind ≡ true → is_reduction kind ≡ false
no_reduction privileges.Ro (layouts.Red op) r e = absurd cc
no_reduction privileges.Rw (layouts.Red op) r e = absurd cc
no_reduction privileges.Wd kind r e = absurd cc
no_reduction (privileges.Red op) kind r e = absurd cc
no_reduction p kind r e = refl

module _ (t : Tables) (consistent : AreConsistent t) (whole : (r : Req) (field : ℕ) → Contains t.reqs r → Contains r.fields field
    → is_some (mapped t r field) ≡ true) (kept : AreKept t) where
  -- The instance to which a field of a requirement that reads is mapped does not reduce.
  mapped_kept : (r : Req) (p : ℕ × ℕ) → Contains t.reqs r → Contains (req_grid t r) p → may_read r.access ≡ true
      → reduces_in t (mapped_cell t r p).inst ≡ false
  mapped_kept r p is at may =
      elim (cases_option (find (λ (m : Map). (m.item == r.item) && ((m.number == r.number) && is_in m.fields p.1)) t.maps)) [
        | inl none ↦ absurd (true≢false (sym (whole r p.1 is (member_grid (points_in t r.space) r.fields p at).1) ∙ rw none refl))
        | inr some ↦
            let m : Map = some.0 in
            let found = found_at (λ (m : Map). (m.item == r.item) && ((m.number == r.number) && is_in m.fields p.1)) t.maps m some.1 in
            let f : IsFit t m = kept.maps m found.0 in
            let named = found_at (λ (r : Req). (r.item == m.item) && (r.number == m.number)) t.reqs f.req f.is_req in
            elim (two_reqs t consistent f.req r named.0 is (grind (arith, nat_tests, found.1, named.1))) [
              | inl one ↦ rw (some.1, f.is_inst) (no_reduction r.access f.inst.kind may
                  (subst (λ (q : Req). fits q.access f.inst.kind ≡ true) one f.fit))
              | inr two ↦ absurd (two.0 (grind (arith, nat_tests, found.1, named.1)))
            ]
      ]

  module _ (item task : ℕ) where
    read_kept : (r : Req) (p : ℕ × ℕ) (m : Move) → Contains t.reqs r → Contains (req_grid t r) p
        → Contains (reads_by task r.number r.access (mapped_cell t r p)) m → KeepsAway t m
    read_kept r p m is at done = cond_both (may_read r.access) (moves.Read task r.number (mapped_cell t r p) ∷ []) [] (λ ms. Contains ms m
        → KeepsAway t m)
        (λ may h. subst (KeepsAway t) (sym (only h)) (mapped_kept r p is at may))
        (λ no h. absurd (Contains-nil h)) done

    change_kept : (number : ℕ) (p : Priv) (c : Cell) (m : Move) → Contains (changes_by task number p c) m → KeepsAway t m
    change_kept number privileges.Ro c m is = absurd (Contains-nil is)
    change_kept number privileges.Rw c m is = subst (KeepsAway t) (sym (only is)) tt
    change_kept number privileges.Wd c m is = subst (KeepsAway t) (sym (only is)) tt
    change_kept number (privileges.Red op) c m is = subst (KeepsAway t) (sym (only is)) tt

    cells_kept : (does : Req → Cell → List Move)
        → ((r : Req) (p : ℕ × ℕ) (m : Move) → Contains t.reqs r → Contains (req_grid t r) p → Contains (does r (mapped_cell t r p)) m
        → KeepsAway t m)
        → (m : Move) → Contains (at_cells t does (reqs_of t item)) m → KeepsAway t m
    cells_kept does each m is =
        let r = member_flat (λ r. flat_map (λ p. does r (mapped_cell t r p)) (req_grid t r)) (reqs_of t item) m is in
        let p = member_flat (λ p. does r.0 (mapped_cell t r.0 p)) (req_grid t r.0) m r.2 in
        each r.0 p.0 m (of_filter (λ (r : Req). r.item == item) t.reqs r.0 r.1).0 p.1 p.2

    run_kept : (m : Move) → Contains (run_moves t task (reqs_of t item)) m → KeepsAway t m
    run_kept m is = elim (Contains-append_cases (at_cells t (λ r c. reads_by task r.number r.access c) (reqs_of t item))
        (at_cells t (λ r c. changes_by task r.number r.access c) (reqs_of t item)) m is) [
          | inl a ↦ cells_kept (λ r c. reads_by task r.number r.access c) read_kept m a
          | inr b ↦ cells_kept (λ r c. changes_by task r.number r.access c)
              (λ r p m _ _ done. change_kept r.number r.access (mapped_cell t r p) m done) m b
        ]

  act_kept : (act : DataAct) (p : ℕ × ℕ) → ActKept t.insts act → KeepsAway t (move_of t act p)
  act_kept (Copies src dst) p h = (kind_is t src false h, refl)
  act_kept (Puts inst n) p h = tt
  act_kept (Resets inst) p h = kind_is t inst true h
  act_kept (Folds src dst) p h = tt

  data_kept : (o : Option DataOp) → IfSome o (λ (d : DataOp). ActKept t.insts d.act) → (m : Move) → Contains (data_moves t o) m
      → KeepsAway t m
  data_kept None h m is = absurd (Contains-nil is)
  data_kept (Some d) h m is =
      let p = member_map (move_of t d.act) (grid (points_in t d.space) d.fields) m is in
      subst (KeepsAway t) (sym p.2) (act_kept d.act p.0 h)

  op_kept : (op : Op) → OpKept t.insts op → (m : Move) → Contains (moves_of t op) m → KeepsAway t m
  op_kept (operations.Run item) h m is = run_kept item (id_of t item) m is
  op_kept op h m is = data_kept (data_of op) h m is

pub steps_kept : (log : List Lined) → IsFaultless Check log → (x : Step) → Contains (steps (tables_of log)) x
    → KeepsAway (tables_of log) x.move
steps_kept log f x m =
    let t = tables_of log in
    let of = of_node t _ x m in
    let k = kept log f in
    op_kept t (consistent Check log f) (all_mapped log f) k of.node.op
    (k.nodes of.node (contains_at t.nodes x.node of.node of.is_node)) x.move of.is_move
