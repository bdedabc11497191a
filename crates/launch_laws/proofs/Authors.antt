-- The record of a log by which it has a requirement.
use Rattle.std.proofs.Common.{◌≡◌, ℕ, ◌==◌, ◌&&◌, Bool, true, List, [], refl, Some, None, slice_get, Contains, arith}
use Rattle.std.proofs.lemmas.Bool.{and_parts, eqb-true}
use Rattle.std.proofs.lemmas.List.Elements.{recursion_from_All, Contains-get_or}
use Rattle.vocabulary.specs.Prelude.{PrivWord, Record, Lined, Item, Req, records_of, Tables, with_record, tables_of, privilege_of, coherence_of}
use Rattle.spy_grammar.specs.declared.record.Record.TheVariants as records
use Rattle.semantics.specs.Rules.{is_declared, item_id, task_id, names, is_task}
use Rattle.semantics.specs.Faults.{records_fault}
use Rattle.list_lemmas.proofs.lemmas.Contained.{each_more, any_found, any_at, all_at, Contains-nil}
use Rattle.log_laws.proofs.lemmas.Consistent.{Keeps}
use Rattle.log_laws.proofs.lemmas.Admitted.{by_records, keeps_of}
use Rattle.launch_laws.proofs.Growth.{item_placed, place_stays}

-- A requirement is that of a record of the log, which names the id of its item.
pub record HasAuthor (log : List Record) (items : List Item) (r : Req) : Type 0 where
  pub task : ℕ
  pub access : PrivWord
  pub atomic : Bool
  pub of_log : Contains log (records.Req task r.tree r.space r.fields access atomic)
  pub is_access : r.access ≡ privilege_of access
  pub is_coherence : r.coherence ≡ coherence_of atomic
  pub item : Item
  pub at : slice_get items r.item ≡ Some item
  pub id : item.id ≡ task

-- This record.
abbrev pub record_of : (log : List Record) (items : List Item) (r : Req) → HasAuthor log items r → Record
record_of log items r a = records.Req a.task r.tree r.space r.fields a.access a.atomic

-- A task is an item.
pub task_is_item : (t : Tables) (id : ℕ) → is_declared t (task_id id) ≡ true → is_declared t (item_id id) ≡ true
task_is_item t id e =
    let found = any_found (λ (i : Item). (i.id == id) && is_task i.body) t.items e in
    any_at (λ (i : Item). i.id == id) t.items found.0 found.1 (and_parts (found.0.id == id) (is_task found.0.body) found.2).0

still_placed : (log : List Record) (t : Tables) (line : ℕ) (r : Record) → ((x : Req) → Contains t.reqs x → HasAuthor log t.items x)
    → (x : Req) → Contains t.reqs x → HasAuthor log (with_record t line r).items x
still_placed log t line r h q m =
    let a = h q m in
    record {
      task = a.task;
      access = a.access;
      atomic = a.atomic;
      of_log = a.of_log;
      is_access = a.is_access;
      is_coherence =
          a.is_coherence;
      item = a.item;
      at = place_stays q.item a.item t line r a.at;
      id = a.id;
    }

one_more : (log : List Record) (t : Tables) (line : ℕ) (r : Record) → Contains log r → Keeps t r
    → ((x : Req) → Contains t.reqs x → HasAuthor log t.items x)
    → (x : Req) → Contains (with_record t line r).reqs x → HasAuthor log (with_record t line r).items x
one_more log t line (records.Req task tree space fields access atomic) m k h =
    let known = task_is_item t task (all_at (is_declared t) (names (records.Req task tree space fields access atomic))
    (task_id task) k.declared (0, omega arith, refl)) in
    let i = item_placed t task known in
    each_more (HasAuthor log t.items) t.reqs _ h (record {
      task = task;
      access = access;
      atomic = atomic;
      of_log = m;
      is_access = refl;
      is_coherence = refl;
      item = i.0;
      at = i.1;
      id = eqb-true i.0.id task i.2;
    })
one_more log t line (records.Task id) m k h = still_placed log t line (records.Task id) h
one_more log t line (records.Fill id tree space fields n) m k h = still_placed log t line (records.Fill id tree space fields n) h
one_more log t line _ m k h = h

pub all_have_authors : (log : List Lined) → records_fault (records_of log) [] log ≡ None
    → (x : Req) → Contains (tables_of log).reqs x → HasAuthor (records_of log) (tables_of log).items x
all_have_authors log none = by_records (Contains (records_of log)) (λ t. (x : Req) → Contains t.reqs x
    → HasAuthor (records_of log) t.items x) (records_of log)
    (λ earlier l u m. one_more (records_of log) (tables_of earlier) l.line l.rec m (keeps_of (records_of log) earlier l.rec u))
    [] log (recursion_from_All _ (records_of log) (λ k d lt. Contains-get_or (records_of log) k d lt)) none
    (λ r m. absurd (Contains-nil m))
