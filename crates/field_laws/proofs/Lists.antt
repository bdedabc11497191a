-- What tables list of fields stands among the lists of their log, and no list has a field twice.
use Rattle.std.proofs.Common.{inl, inr, ℕ, List, [], ◌∷◌, fold, Contains}
use Rattle.std.specs.List.{AllByRecursion}
use Rattle.spy_grammar.specs.declared.record.Record.TheVariants as records
use Rattle.semantics.specs.declared.tables.ItemBody.TheVariants as bodies
use Rattle.semantics.specs.declared.tables.Op.TheVariants as operations
use Rattle.vocabulary.specs.Prelude.{Record, Lined, Good, records_of, Item, ItemBody, Req, Inst, Map, Op, LogNode, Tables, with_record, no_tables, tables_of}
use Rattle.log_laws.proofs.lemmas.Apart.{fields_apart}
use Rattle.list_lemmas.proofs.lemmas.Contained.{each_more, only, Contains-nil, Contains-here}
use Rattle.std.proofs.lemmas.List.Elements.{Contains-append_cases, Contains-append_left, Contains-append_right}
use Rattle.list_lemmas.proofs.lemmas.Pairs.{Apart}
use Rattle.field_laws.specs.Fields.{fields_of, field_lists}

-- The fields that an item itself lists, or an operation.
abbrev pub body_lists : ItemBody → List (List ℕ)
body_lists bodies.Task = []
body_lists (bodies.Fill tree space fields n) = fields ∷ []

abbrev pub op_lists : Op → List (List ℕ)
op_lists (operations.Copy src dst space fields) = fields ∷ []
op_lists (operations.Put inst space fields n) = fields ∷ []
op_lists (operations.Reset inst space fields) = fields ∷ []
op_lists (operations.Fold src dst space fields) = fields ∷ []
op_lists _ = []

abbrev pub AreAmong : List (List ℕ) → List (List ℕ) → Type 0
AreAmong lists some = (fields : List ℕ) → Contains some fields → Contains lists fields

-- All that tables list of fields stands among some lists.
abbrev pub HasLists : Tables → List (List ℕ) → Type 0
HasLists t lists = ((r : Req) → Contains t.reqs r → Contains lists r.fields)
    × ((i : Inst) → Contains t.insts i → Contains lists i.fields)
    × ((m : Map) → Contains t.maps m → Contains lists m.fields)
    × ((i : Item) → Contains t.items i → AreAmong lists (body_lists i.body))
    × ((n : LogNode) → Contains t.nodes n → AreAmong lists (op_lists n.op))

with_lists : (lists : List (List ℕ)) (t : Tables) (line : ℕ) (r : Record) → AreAmong lists (fields_of r) → HasLists t lists
    → HasLists (with_record t line r) lists
with_lists lists t line (records.Req task tree space fields access atomic) new (reqs, insts, maps, items, nodes) =
    (each_more _ t.reqs _ reqs (new fields (Contains-here [])), insts, maps, items, nodes)
with_lists lists t line (records.Inst id tree space fields kind) new (reqs, insts, maps, items, nodes) =
    (reqs, each_more _ t.insts _ insts (new fields (Contains-here [])), maps, items, nodes)
with_lists lists t line (records.Map task number fields inst) new (reqs, insts, maps, items, nodes) =
    (reqs, insts, each_more _ t.maps _ maps (new fields (Contains-here [])), items, nodes)
with_lists lists t line (records.Task id) new (reqs, insts, maps, items, nodes) =
    (reqs, insts, maps, each_more (λ (i : Item). AreAmong lists (body_lists i.body)) t.items _ items new, nodes)
with_lists lists t line (records.Fill id tree space fields n) new (reqs, insts, maps, items, nodes) =
    (reqs, insts, maps, each_more (λ (i : Item). AreAmong lists (body_lists i.body)) t.items _ items new, nodes)
with_lists lists t line (records.Run task done waits) new (reqs, insts, maps, items, nodes) =
    (reqs, insts, maps, items, each_more (λ (n : LogNode). AreAmong lists (op_lists n.op)) t.nodes _ nodes new)
with_lists lists t line (records.Copy src dst space fields done waits) new (reqs, insts, maps, items, nodes) =
    (reqs, insts, maps, items, each_more (λ (n : LogNode). AreAmong lists (op_lists n.op)) t.nodes _ nodes new)
with_lists lists t line (records.Put inst space fields n done waits) new (reqs, insts, maps, items, nodes) =
    (reqs, insts, maps, items, each_more (λ (n : LogNode). AreAmong lists (op_lists n.op)) t.nodes _ nodes new)
with_lists lists t line (records.Reset inst space fields done waits) new (reqs, insts, maps, items, nodes) =
    (reqs, insts, maps, items, each_more (λ (n : LogNode). AreAmong lists (op_lists n.op)) t.nodes _ nodes new)
with_lists lists t line (records.Fold src dst space fields done waits) new (reqs, insts, maps, items, nodes) =
    (reqs, insts, maps, items, each_more (λ (n : LogNode). AreAmong lists (op_lists n.op)) t.nodes _ nodes new)
with_lists lists t line (records.Merge done waits) new (reqs, insts, maps, items, nodes) =
    (reqs, insts, maps, items, each_more (λ (n : LogNode). AreAmong lists (op_lists n.op)) t.nodes _ nodes new)
with_lists lists t line _ new h = h

all_lists : (lists : List (List ℕ)) (t : Tables) (log : List Lined) → AreAmong lists (field_lists log) → HasLists t lists
    → HasLists (fold (λ t (l : Lined). with_record t l.line l.rec) t log) lists
all_lists lists t [] new h = h
all_lists lists t (l ∷ log) new h =
    all_lists lists (with_record t l.line l.rec) log (λ fields m. new fields (Contains-append_right (fields_of l.rec) (field_lists log) fields m))
    (with_lists lists t l.line l.rec (λ fields m. new fields (Contains-append_left (fields_of l.rec) (field_lists log) fields m)) h)

pub has_lists : (log : List Lined) → HasLists (tables_of log) (field_lists log)
has_lists log = all_lists (field_lists log) no_tables log (λ fields m. m)
    (λ r m. absurd (Contains-nil m), λ i m. absurd (Contains-nil m), λ n m. absurd (Contains-nil m), λ i m. absurd (Contains-nil m), λ n m. absurd (Contains-nil m))

-- ---- no field twice

one_apart : (r : Record) → Good r → (fields : List ℕ) → Contains (fields_of r) fields → Apart fields
one_apart (records.Req task tree space ns access atomic) good fields m = rw (only m) (fields_apart ns good.1.1.1.0)
one_apart (records.Fill id tree space ns n) good fields m = rw (only m) (fields_apart ns good.1.1.1.0)
one_apart (records.Inst id tree space ns kind) good fields m = rw (only m) (fields_apart ns good.1.1.1.0)
one_apart (records.Map task number ns inst) good fields m = rw (only m) (fields_apart ns good.1.1.0)
one_apart (records.Copy src dst space ns done waits) good fields m = rw (only m) (fields_apart ns good.1.1.1.0)
one_apart (records.Put inst space ns n done waits) good fields m = rw (only m) (fields_apart ns good.1.1.0)
one_apart (records.Reset inst space ns done waits) good fields m = rw (only m) (fields_apart ns good.1.1.0)
one_apart (records.Fold src dst space ns done waits) good fields m = rw (only m) (fields_apart ns good.1.1.1.0)
one_apart _ good fields m = absurd (Contains-nil m)

pub lists_apart : (log : List Lined) → AllByRecursion Good (records_of log) → (fields : List ℕ) → Contains (field_lists log) fields
    → Apart fields
lists_apart [] good fields m = absurd (Contains-nil m)
lists_apart (l ∷ log) good fields m = elim (Contains-append_cases (fields_of l.rec) (field_lists log) fields m) [
  | inl here ↦ one_apart l.rec good.0 fields here
  | inr later ↦ lists_apart log good.1 fields later
]
