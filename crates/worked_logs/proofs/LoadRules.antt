-- Requirements that reduce at each place of a region, instances with a cell at each: their load, and the rules.
use Rattle.std.proofs.Common.{◌≡◌, ℕ, suc, ◌+◌, ◌*◌, ◌≤◌, ◌<◌, ◌==◌, nat_lt, Bool, true, false, not, ◌&&◌, List, [], ◌∷◌, ◌++◌, All, length, sum_by, filter, cond, Option, Some, refl, sym, ap, ap₂, ◌∙◌, arith, None, add-one, mul-le-mul_right, length-append}
use Rattle.std.specs.List.{list_any}
use Rattle.std.proofs.Math.Bool.{and-false}
use Rattle.std.proofs.Math.Nat.{suc-mul}
use Rattle.std.proofs.lemmas.Bool.{le-ltb, ne_eqb}
use Rattle.std.proofs.lemmas.List.Elements.{All-head, All-push, All-tail, All-weaker}
use Rattle.std.proofs.lemmas.List.Folds.{list_any_none}
use Rattle.spy_words.specs.declared.access.PrivWord.TheVariants as words
use Rattle.spy_words.specs.declared.access.InstKind.TheVariants as layouts
use Rattle.vocabulary.specs.Prelude.{Code, Record, Lined, agree, may_read, Req, Inst, records_of, Tables, with_record, no_tables, tables_of, meets, points_in, covers, grid}
use Rattle.spy_grammar.specs.declared.code.Code.TheVariants as codes
use Rattle.spy_grammar.specs.declared.record.Record.TheVariants as records
use Rattle.privilege.specs.declared.kinds.Priv.TheVariants as privileges
use Rattle.semantics.specs.declared.tables.ItemBody.TheVariants as bodies
use Rattle.semantics.specs.Rules.{accesses, is_planar, size_of, reduces, load_of}
use Rattle.worked_logs.proofs.Lists.{within_itself, sum_of_same, length-all_kept, length-grid, IsOfBoth, all_of_both}
use Rattle.worked_logs.proofs.Frames.{broken_by, one_more, declares_more, asks_more, in_time}

-- What the rules find at the end: too much load, or nothing.
abbrev pub broken_if : Bool → Option Code
broken_if big = cond big (Some codes.TooMuchLoad) None

-- The points and the fields of the region.
module _ (points fs : List ℕ) where
  abbrev pub size : ℕ
  size = length points * length fs

  -- The records, and what they declare after a region, an operator and a task.
  abbrev pub reduction : Record
  reduction = records.Req 1 1 1 fs (words.Red 1) false

  abbrev pub instance : ℕ → Record
  instance id = records.Inst id 1 1 fs layouts.Plain

  abbrev pub declared : List Req → List Inst → Tables
  declared reqs insts = record no_tables {
    version = 1;
    rects = record { x0 = 0; x1 = 0; y0 = 1; y1 = length points } ∷ [];
    spaces = record { id = 1; points = points } ∷ [];
    field_spaces = record { id = 1; fields = fs } ∷ [];
    trees = record { id = 1; space = 1; fspace = 1 } ∷ [];
    operators = 1 ∷ [];
    items = record { id = 1; line = 6; body = bodies.Task } ∷ [];
    reqs = reqs;
    insts = insts;
  }

  abbrev pub IsReduction : Req → Type 0
  IsReduction r = (r.tree ≡ 1) × (r.space ≡ 1) × (r.fields ≡ fs) × (r.access ≡ privileges.Red 1)

  -- (Its id is not above this one.)
  abbrev pub IsWhole : ℕ → Inst → Type 0
  IsWhole last i = (i.tree ≡ 1) × (i.space ≡ 1) × (i.fields ≡ fs) × (i.id ≤ last)

  -- ---- The load.

  module _ (t : Tables) (flat : is_planar t ≡ false) (at : points_in t 1 ≡ points) (reduce : All IsReduction t.reqs) where
    -- Whether a requirement reduces at a place of the region.
    abbrev reduces_at : ℕ × ℕ → Req → Bool
    reduces_at p r = reduces r.access && covers t (record { tree = 1; point = p.0; field = p.1 }) r

    one_reduces : (p : ℕ × ℕ) (r : Req) → IsOfBoth points fs p → IsReduction r → reduces_at p r ≡ true
    one_reduces p r of is = rw (is.3, is.0, is.1, is.2, at, of.0, of.1) refl

    all_reduce : (p : ℕ × ℕ) → IsOfBoth points fs p → length (filter (reduces_at p) t.reqs) ≡ length t.reqs
    all_reduce p of =
        let passed =
        All-weaker IsReduction (λ r. reduces_at p r ≡ true) (λ r is. one_reduces p r of is) t.reqs reduce in
        length-all_kept (reduces_at p) t.reqs passed

    load_of_one : (last : ℕ) (i : Inst) → IsWhole last i → load_of t i ≡ size * length t.reqs
    load_of_one last i is =
        let n = length t.reqs in
        let places = grid points fs in
        let reducing : ℕ × ℕ → ℕ = λ p. length (filter (reduces_at p) t.reqs) in
        let same = All-weaker (IsOfBoth points fs) (λ p. reducing p ≡ n) all_reduce places (all_of_both points fs) in
        rw (is.0, is.1, is.2, flat, at) (sum_of_same reducing n places same ∙ ap (λ m. m * n) (length-grid points fs))

    pub load_of_all : (last : ℕ) (is : List Inst) → All (IsWhole last) is
        → sum_by (load_of t) is ≡ length is * (size * length t.reqs)
    load_of_all last is whole =
        let load = size * length t.reqs in
        let same = All-weaker (IsWhole last) (λ i. load_of t i ≡ load) (load_of_one last) is whole in
        sum_of_same (load_of t) load is same

  -- ---- The reads.

  -- Requirements that reduce read nothing.
  none_reads : (rs : List Req) → All IsReduction rs → filter (λ (r : Req). may_read r.access) rs ≡ []
  none_reads [] reduce = refl
  none_reads (r ∷ rs) reduce = rw ((All-head IsReduction r rs reduce).3) (none_reads rs (All-tail IsReduction r rs reduce))

  -- ---- The cells.

  abbrev cells_of : Tables → Inst → ℕ
  cells_of t i = size_of t i.space i.fields

  cells_of_all : (t : Tables) → points_in t 1 ≡ points → (last : ℕ) (is : List Inst) → All (IsWhole last) is
      → sum_by (cells_of t) is ≡ length is * size
  cells_of_all t at last is whole =
      let same = All-weaker (IsWhole last) (λ i. cells_of t i ≡ size) (λ i w. rw (w.1, w.2, at) refl) is whole in
      sum_of_same (cells_of t) size is same

  -- ---- The rules that look at earlier requirements and instances.

  -- Two reductions with one operator agree.
  abbrev disagrees : Tables → Req → Bool
  disagrees t r =
      (r.item == 0)
      && ((r.tree == 1)
      && (meets (points_in t r.space) points && (meets r.fields fs && not (agree r.access (privileges.Red 1)))))

  own_agree : (t : Tables) (rs : List Req) → All IsReduction rs → list_any (disagrees t) rs ≡ false
  own_agree t rs reduce =
      let agreed : (r : Req) → IsReduction r → disagrees t r ≡ false =
      λ r is. rw (is.3, and-false, and-false, and-false, and-false) refl in
      list_any_none (disagrees t) rs (All-weaker IsReduction (λ r. disagrees t r ≡ false) agreed rs reduce)

  new : (last : ℕ) (is : List Inst) → All (IsWhole last) is
      → list_any (λ (i : Inst). i.id == last + 1) is ≡ false
  new last is whole =
      let other : (i : Inst) → IsWhole last i → (i.id == last + 1) ≡ false =
      λ i w. let up = w.3 in ne_eqb i.id (last + 1) (λ e. omega (arith, up, e)) in
      let others = All-weaker (IsWhole last) (λ i. (i.id == last + 1) ≡ false) other is whole in
      list_any_none (λ (i : Inst). i.id == last + 1) is others

  -- ---- What is known before a record, and after it.

  -- The records before a line declare so many requirements and instances, and ask for the accesses of the former.
  pub record Declare (line reqs_count insts_count : ℕ) (earlier : List Lined) : Type 0 where
    pub reqs : List Req
    pub insts : List Inst
    pub count : length (records_of earlier) + 1 ≡ line
    pub tables : tables_of earlier ≡ declared reqs insts
    pub reduce : All IsReduction reqs
    pub whole : All (IsWhole insts_count) insts
    pub reqs_are : length reqs ≡ reqs_count
    pub insts_are : length insts ≡ insts_count
    pub asked : (t : Tables) → is_planar t ≡ false → points_in t 1 ≡ points → sum_by (accesses t) (records_of earlier) ≡ reqs_count * size

  module _ (line n k : ℕ) (earlier : List Lined) (before : Declare line n k earlier) where
    abbrev at_next : Record → Lined
    at_next r = record { line = line; rec = r }

    abbrev t : Tables
    t = declared before.reqs before.insts

    -- The next record stands on this line; it may ask for more.
    counts : (r : Record) → length (records_of (earlier ++ at_next r ∷ [])) + 1 ≡ line + 1
    counts r =
        let count = before.count in
        let longer = one_more earlier (at_next r) in
        omega (arith, count, longer)

    asks : (r : Record) (n' : ℕ) → ((t : Tables) → is_planar t ≡ false → points_in t 1 ≡ points → n * size + accesses t r ≡ n' * size)
        → (t : Tables) → is_planar t ≡ false → points_in t 1 ≡ points
        → sum_by (accesses t) (records_of (earlier ++ at_next r ∷ [])) ≡ n' * size
    asks r n' adds t flat at =
        asks_more earlier (at_next r) t ∙ ap (λ m. m + accesses t r) (before.asked t flat at) ∙ adds t flat at

    -- After one requirement more, and after one instance more.
    pub after_req : Declare (line + 1) (n + 1) k (earlier ++ at_next reduction ∷ [])
    after_req =
        let reqs_are = before.reqs_are in
        let product : n * size + size ≡ (n + 1) * size = sym (suc-mul n size) ∙ ap (λ n. n * size) (sym (add-one n)) in
        record {
          reqs = (with_record t line reduction).reqs;
          insts = before.insts;
          count = counts reduction;
          tables = declares_more earlier (at_next reduction) t before.tables;
          reduce = All-push IsReduction before.reqs _ before.reduce (refl, refl, refl, refl);
          whole = before.whole;
          reqs_are = length-append before.reqs _ ∙ omega (arith, reqs_are);
          insts_are = before.insts_are;
          asked = asks reduction (n + 1) (λ t flat at. rw (flat, at) product);
        }

    still_whole : All (IsWhole (k + 1)) before.insts
    still_whole =
        let higher : (i : Inst) → IsWhole k i → IsWhole (k + 1) i =
        λ i w. (w.0, w.1, w.2, let up = w.3 in omega (arith, up)) in
        All-weaker (IsWhole k) (IsWhole (k + 1)) higher before.insts before.whole

    pub after_inst : Declare (line + 1) n (k + 1) (earlier ++ at_next (instance (k + 1)) ∷ [])
    after_inst =
        let insts_are = before.insts_are in
        record {
          reqs = before.reqs;
          insts = (with_record t line (instance (k + 1))).insts;
          count = counts (instance (k + 1));
          tables = declares_more earlier (at_next (instance (k + 1))) t before.tables;
          reduce = before.reduce;
          whole = All-push (IsWhole (k + 1)) before.insts _ still_whole (refl, refl, refl, omega arith);
          reqs_are = before.reqs_are;
          insts_are = length-append before.insts _ ∙ omega (arith, insts_are);
          asked = asks (instance (k + 1)) n (λ t flat at. omega arith);
        }

    -- ---- The rules at the next record.

    module _ (log : List Record) (few : line ≤ 131073) where
      -- A product grows with its factor.
      up_to : (m total : ℕ) → m < total → suc m * size ≤ total * size
      up_to m total more = mul-le-mul_right size more

      pub req_kept : (total : ℕ) → n < total → total * size ≤ 4194304
          → broken_by log earlier reduction ≡ None
      req_kept total more fits =
          let asked = before.asked t refl refl in
          let product = suc-mul n size in
          let within = up_to n total more in
          rw (
            before.tables,
            in_time earlier line before.count few,
            own_agree t before.reqs before.reduce,
            within_itself fs,
            le-ltb 4194304 (sum_by (accesses t) (records_of earlier) + size) (omega (arith, asked, product, within, fits)),
          ) refl

      pub inst_kept : (total : ℕ) → k < total → total * size ≤ 1048576 → n * size ≤ 4194304
          → broken_by log earlier (instance (k + 1)) ≡ None
      inst_kept total more fits asks_few =
          let asked = before.asked t refl refl in
          let cells = cells_of_all t refl k before.insts before.whole in
          let counted = ap (λ m. m * size) before.insts_are in
          let product = suc-mul k size in
          let within = up_to k total more in
          rw (
            before.tables,
            in_time earlier line before.count few,
            new k before.insts before.whole,
            within_itself fs,
            within_itself points,
            le-ltb 1048576 (sum_by (cells_of t) before.insts + size) (omega (arith, cells, counted, product, within, fits)),
            le-ltb 4194304 (sum_by (accesses t) (records_of earlier) + 0) (omega (arith, asked, asks_few)),
          ) refl

      pub run_kept : n * size ≤ 4194304
          → broken_by log earlier (records.Run 1 1 []) ≡ None
      run_kept asks_few =
          let asked = before.asked t refl refl in
          rw (
            before.tables,
            in_time earlier line before.count few,
            le-ltb 4194304 (sum_by (accesses t) (records_of earlier) + 0) (omega (arith, asked, asks_few)),
          ) refl

    -- ---- The rules at the end, after the run.

    abbrev pub run : Lined
    run = at_next (records.Run 1 1 [])

    abbrev at_last : Tables
    at_last = with_record t line (records.Run 1 1 [])

    load : sum_by (load_of at_last) before.insts ≡ k * (size * n)
    load =
        load_of_all at_last refl refl before.reduce k before.insts before.whole
        ∙ ap₂ (λ a b. a * (size * b)) before.insts_are before.reqs_are

    -- (After the rule on the load only that on reads is tried, and nothing is read.)
    pub at_end : (log : List Record) (count : ℕ) (big : Bool) → n * size ≤ 4194304
        → nat_lt 67108864 (k * (size * n)) ≡ big
        → broken_by log (earlier ++ run ∷ []) (records.End count) ≡ broken_if big
    at_end log count big asks_few is =
        let asked = asks (records.Run 1 1 []) n (λ t flat at. omega arith) at_last refl refl in
        rw (
          declares_more earlier run t before.tables,
          le-ltb 4194304 (sum_by (accesses at_last) (records_of (earlier ++ run ∷ [])) + 0) (omega (arith, asked, asks_few)),
          ap (λ load. nat_lt 67108864 load) load ∙ is,
          none_reads before.reqs before.reduce,
        ) refl
