-- The members of a nested log of which no fault is shown are tasks, which ask for their requirements and nothing else.
use Rattle.std.proofs.Common.{◌≡◌, ℕ, ◌==◌, ◌&&◌, true, List, [], ◌∷◌, refl, ap, ◌∙◌, subst, Some, None, slice_get, Contains}
use Rattle.std.proofs.lemmas.Bool.{and_parts, eqb-true}
use Rattle.std.proofs.lemmas.Option.{slice_get-get_or}
use Rattle.spy_grammar.specs.declared.nested.NRecord.{NRecord}
use Rattle.spy_grammar.specs.declared.nested.NRecord.TheVariants as nested
use Rattle.spy_grammar.specs.declared.nested.NLined.{NLined}
use Rattle.spy_grammar.specs.declared.record.Record.TheVariants as records
use Rattle.vocabulary.specs.Prelude.{Record, Item, ItemBody, Tables, with_record, place_of, reqs_of, uses_of}
use Rattle.semantics.specs.declared.tables.ItemBody.TheVariants as bodies
use Rattle.semantics.specs.declared.groups.GroupMember.{GroupMember}
use Rattle.semantics.specs.Rules.{is_task, is_declared, task_id}
use Rattle.semantics.specs.Nesting.{Nesting, with_nested, nesting_of, nested_tables, nested_fault, plain_log}
use Rattle.std.proofs.lemmas.List.Elements.{Contains-append_left}
use Rattle.list_lemmas.proofs.lemmas.Contained.{each_more, any_found, all_at, Contains-nil, Contains-here}
use Rattle.log_laws.proofs.lemmas.Admitted.{no_broken_rule}
use Rattle.log_laws.proofs.lemmas.SerialOrder.{items_placed}
use Rattle.nest_laws.proofs.Walks.{with_plain, KeepsGroups, holds_of_log, plain_faultless}

-- A member is the id of a task.
abbrev IsOfTask : Tables → GroupMember → Type 0
IsOfTask t m = (i : Item) × Contains t.items i × (i.id ≡ m.task) × (i.body ≡ bodies.Task)

abbrev AreOfTasks : Tables → Nesting → Type 0
AreOfTasks t n = (x : GroupMember) → Contains n.members x → IsOfTask t x

item_stays : (i : Item) (t : Tables) (line : ℕ) (r : Record) → Contains t.items i → Contains (with_record t line r).items i
item_stays i t line (records.Task id) m = Contains-append_left t.items _ i m
item_stays i t line (records.Fill id tree space fields n) m = Contains-append_left t.items _ i m
item_stays i t line _ m = m

task_body : (body : ItemBody) → is_task body ≡ true → body ≡ bodies.Task
task_body bodies.Task e = refl
task_body (bodies.Fill tree space fields n) e = absurd cc

task_found : (t : Tables) (id group : ℕ) → is_declared t (task_id id) ≡ true → IsOfTask t (record { task = id; group = group })
task_found t id group e =
    let found = any_found (λ (i : Item). (i.id == id) && is_task i.body) t.items e in
    let parts = and_parts (found.0.id == id) (is_task found.0.body) found.2 in
    (found.0, found.1, eqb-true found.0.id id parts.0, task_body found.0.body parts.1)

one_more : (t : Tables) (n : Nesting) (line : ℕ) (r : NRecord) → KeepsGroups t n r → AreOfTasks t n
    → AreOfTasks (with_plain t (record { line = line; rec = r })) (with_nested n r)
one_more t n line (nested.Plain r) kept h m of = let i = h m of in (i.0, item_stays i.0 t line r i.1, i.2, i.3)
one_more t n line (nested.Member task group) kept h m of =
    each_more (IsOfTask t) n.members (record { task = task; group = group }) h
    (task_found t task group (all_at (is_declared t) (task_id task ∷ []) (task_id task) kept.things (Contains-here []))) m of
one_more t n line (nested.Group id parent) kept h m of = h m of
one_more t n line (nested.Greq group tree space fields access) kept h m of = h m of

uses_are : (t : Tables) (k : ℕ) (i : Item) → slice_get t.items k ≡ Some i → i.body ≡ bodies.Task → uses_of t k ≡ reqs_of t k
uses_are t k i at body = rw (at, body) refl

-- What the item of a member asks for.
pub task_uses : (lines : ℕ) (log : List NLined) → nested_fault lines log ≡ None → (m : GroupMember) → Contains (nesting_of log).members m
    → uses_of (nested_tables log) (place_of (nested_tables log).items m.task)
    ≡ reqs_of (nested_tables log) (place_of (nested_tables log).items m.task)
task_uses lines log none m of =
    let t : Tables = nested_tables log in
    let i = holds_of_log AreOfTasks (λ t n l. one_more t n l.line l.rec) (λ m of. absurd (Contains-nil of)) lines log none m of in
    let k = i.1 in
    let at : slice_get t.items k.0 ≡ Some i.0 = slice_get-get_or t.items k.0 i.0 k.1 ∙ ap (λ i. Some i) k.2 in
    let back : place_of t.items i.0.id ≡ k.0 = subst (λ id. place_of t.items id ≡ k.0) (rw at refl)
    (items_placed (plain_log log) (no_broken_rule lines (plain_log log) (plain_faultless lines log none)) k.0 k.1) in
    let place : place_of t.items m.task ≡ k.0 = subst (λ id. place_of t.items id ≡ k.0) i.2 back in
    rw place (uses_are t k.0 i.0 at i.3)
