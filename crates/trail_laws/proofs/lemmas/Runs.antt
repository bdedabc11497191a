-- In the tables of a log without a fault no two nodes run one item, and no two nodes have one event, which is not 0.
use Rattle.std.proofs.Common.{◌≡◌, ◌≢◌, ℕ, zero, suc, ◌<◌, ◌≤◌, inl, inr, true, false, ◌&&◌, ◌==◌, nat_lt, List, [], ◌∷◌, ◌++◌, find, Some, length, option_map, unwrap_or, slice_get, refl, sym, ap, ◌∙◌, subst, arith, Contains, AllPairs}
use Rattle.std.specs.List.{list_all, AllByRecursion}
use Rattle.std.proofs.lemmas.Bool.{and_parts, ltb-true, eqb-true, eq-eqb, true≢false, cases_eq, cases_Bool}
use Rattle.std.proofs.lemmas.Bool.Decides.{nat_tests}
use Rattle.std.proofs.lemmas.Option.{slice_get_within, slice_get-map, get_or_from_slice_get}
use Rattle.std.proofs.lemmas.List.{length-append}
use Rattle.std.proofs.lemmas.List.Folds.{find_at}
use Rattle.std.proofs.lemmas.List.Elements.{recursion_from_All}
use Rattle.spy_grammar.specs.declared.code.Code.TheVariants as codes
use Rattle.vocabulary.specs.Prelude.{Record, Lined, Good, Command, Item, LogNode, Op, records_of, Tables, with_record, tables_of, place_of, Node, graph_of, AreLinked}
use Rattle.spy_grammar.specs.declared.record.Record.TheVariants as records
use Rattle.semantics.specs.declared.tables.Op.TheVariants as operations
use Rattle.semantics.specs.Shown.{event_of}
use Rattle.semantics.specs.Rules.{is_declared, is_task, names, task_id, is_run_again, runs_item}
use Rattle.list_lemmas.proofs.lemmas.Contained.{each_more, none_at, any_at, any_found, find_any, found_at, map_member, Contains-nil}
use Rattle.list_lemmas.proofs.lemmas.Firsts.{contains_at}
use Rattle.list_lemmas.proofs.lemmas.Pairs.{AllPairs-cases, AllPairs-push, AllPairs-nil, AllPairs-first, AllPairs-rest, AllPairs-put}
use Rattle.list_lemmas.proofs.lemmas.Parts.{place_len}
use Rattle.log_laws.proofs.lemmas.Admitted.{Unbroken, rule_kept, IsFaultless, by_records, keeps_of}

-- ---- what stays with each record

-- Two nodes do not run one item.
abbrev pub RunApart : LogNode → LogNode → Type 0
RunApart m n = (item : ℕ) → m.op ≡ operations.Run item → n.op ≡ operations.Run item → ⊥

-- What the graph has of a node.
abbrev event_node : LogNode → Node
event_node n = record { done = n.done; waits = n.waits }

-- No two nodes run one item, and each that runs an item runs one that there is.
pub record AreRuns (t : Tables) : Type 0 where
  pub runs : AllPairs RunApart t.nodes
  pub items : (n : LogNode) → Contains t.nodes n → (item : ℕ) → n.op ≡ operations.Run item → item < length t.items

-- The rules that matter here.
record Keeps (t : Tables) (r : Record) : Type 0 where
  declared : list_all (is_declared t) (names r) ≡ true
  first_run : is_run_again t r ≡ false

keeps : (log : List Record) (earlier : List Lined) (r : Record) → Unbroken log earlier r → Keeps (tables_of earlier) r
keeps log earlier r u = record { declared = (keeps_of log earlier r u).declared; first_run = rule_kept codes.TwoRuns refl u }

with_item : (t : Tables) (i : Item) → AreRuns t → AreRuns (record t { items = t.items ++ i ∷ [] })
with_item t i h = record {
  runs = h.runs;
  items = λ n m item e. let lt = h.items n m item e in omega (arith, lt, length-append t.items (i ∷ []));
}

with_node : (t : Tables) (n : LogNode) → ((m : LogNode) → Contains t.nodes m → (item : ℕ) → m.op ≡ operations.Run item
    → n.op ≡ operations.Run item → ⊥)
    → ((item : ℕ) → n.op ≡ operations.Run item → item < length t.items) → AreRuns t → AreRuns (record t { nodes = t.nodes ++ n ∷ [] })
with_node t n once there h = record {
  runs = AllPairs-push RunApart t.nodes n h.runs once;
  items = each_more (λ (n : LogNode). (item : ℕ) → n.op ≡ operations.Run item → item < length t.items) t.nodes n h.items there;
}

abbrev item_of : Op → ℕ
item_of (operations.Run item) = item
item_of _ = 0

-- A task that is declared is one of the items.
task_within : (t : Tables) (task : ℕ) → is_declared t (task_id task) ≡ true → place_of t.items task < length t.items
task_within t task e =
    let found = any_found (λ (i : Item). (i.id == task) && is_task i.body) t.items e in
    let i : Item = found.0 in
    let here = find_any (λ (i : Item). i.id == task) t.items
    (any_at (λ (i : Item). i.id == task) t.items i found.1 (and_parts (i.id == task) (is_task i.body) found.2).0) in
    slice_get_within t.items (place_of t.items task) here.0 (ap (slice_get t.items) (place_len (λ (i : Item). i.id == task) t.items)
    ∙ sym (find_at (λ (i : Item). i.id == task) t.items) ∙ here.1)

with_kept : (t : Tables) (line : ℕ) (r : Record) → Keeps t r → AreRuns t → AreRuns (with_record t line r)
with_kept t line (records.Task id) k h = with_item t _ h
with_kept t line (records.Fill id tree space fields n) k h = with_item t _ h
with_kept t line (records.Run task done waits) k h = with_node t _
    (λ m is item a b. true≢false (sym (ap (runs_item (place_of t.items task)) a ∙ eq-eqb item (place_of t.items task) (sym (ap item_of b)))
    ∙ none_at (λ (n : LogNode). runs_item (place_of t.items task) n.op) t.nodes m k.first_run is))
    (λ item e. subst (λ n. n < length t.items) (ap item_of e)
    (task_within t task (and_parts (is_declared t (task_id task)) true k.declared).0)) h
with_kept t line (records.Copy src dst space fields done waits) k h = with_node t _ (λ m is item a b. absurd cc) (λ item e. absurd cc) h
with_kept t line (records.Put inst space fields n done waits) k h = with_node t _ (λ m is item a b. absurd cc) (λ item e. absurd cc) h
with_kept t line (records.Reset inst space fields done waits) k h = with_node t _ (λ m is item a b. absurd cc) (λ item e. absurd cc) h
with_kept t line (records.Fold src dst space fields done waits) k h = with_node t _ (λ m is item a b. absurd cc) (λ item e. absurd cc) h
with_kept t line (records.Merge done waits) k h = with_node t _ (λ m is item a b. absurd cc) (λ item e. absurd cc) h
with_kept t line _ k h = record { runs = h.runs; items = h.items }

pub are_runs : (command : Command) (log : List Lined) → IsFaultless command log → AreRuns (tables_of log)
are_runs command log f = by_records (λ r. Unit {0}) AreRuns (records_of log)
    (λ earlier l u _. with_kept (tables_of earlier) l.line l.rec (keeps (records_of log) earlier l.rec u))
    [] log (recursion_from_All _ (records_of log) (λ k d lt. tt)) f.records (record { runs = AllPairs-nil RunApart; items = λ n m. absurd (Contains-nil m) })

-- ---- what follows

module _ (t : Tables) (h : AreRuns t) where
  pub within_items : (k item : ℕ) (n : LogNode) → slice_get t.nodes k ≡ Some n → n.op ≡ operations.Run item → item < length t.items
  within_items k item n at e = h.items n (contains_at t.nodes k n at) item e

  before : (k l : ℕ) (m n : LogNode) → slice_get t.nodes k ≡ Some m → slice_get t.nodes l ≡ Some n → k < l → (item : ℕ)
      → m.op ≡ operations.Run item → n.op ≡ operations.Run item → ⊥
  before k l m n a b lt item e f = h.runs k l m lt (slice_get_within t.nodes l n b) item
      (ap (λ (n : LogNode). n.op) (get_or_from_slice_get t.nodes k m m a) ∙ e)
      (ap (λ (n : LogNode). n.op) (get_or_from_slice_get t.nodes l n m b) ∙ f)

  -- Two nodes that run one item are one.
  pub one_run : (k l item : ℕ) (m n : LogNode) → slice_get t.nodes k ≡ Some m → slice_get t.nodes l ≡ Some n → m.op ≡ operations.Run item
      → n.op ≡ operations.Run item → k ≡ l
  one_run k l item m n a b e f = elim (cases_eq k l) [
    | inl same ↦ same
    | inr differ ↦ elim (cases_Bool (nat_lt k l)) [
      | inl below ↦ absurd (before k l m n a b (ltb-true k l below) item e f)
      | inr above ↦
          absurd (before l k n m b a (grind (arith, nat_tests)) item f e)
    ]
  ]

-- ---- events

abbrev Positive : LogNode → Type 0
Positive n = 1 ≤ n.done

more_positive : (t : Tables) (line : ℕ) (r : Record) → Good r → ((x : LogNode) → Contains t.nodes x → Positive x) → (x : LogNode) → Contains (with_record t line r).nodes x → Positive x
more_positive t line (records.Run task done waits) good h = each_more Positive t.nodes _ h good.1.0.0
more_positive t line (records.Copy src dst space fields done waits) good h = each_more Positive t.nodes _ h good.1.1.1.1.0.0
more_positive t line (records.Put inst space fields n done waits) good h = each_more Positive t.nodes _ h good.1.1.1.1.0.0
more_positive t line (records.Reset inst space fields done waits) good h = each_more Positive t.nodes _ h good.1.1.1.0.0
more_positive t line (records.Fold src dst space fields done waits) good h = each_more Positive t.nodes _ h good.1.1.1.1.0.0
more_positive t line (records.Merge done waits) good h = each_more Positive t.nodes _ h good.0.0
more_positive t line _ good h = h

positive : (command : Command) (log : List Lined) → AllByRecursion Good (records_of log) → IsFaultless command log
    → (x : LogNode) → Contains (tables_of log).nodes x → Positive x
positive command log good f = by_records Good (λ t. ((x : LogNode) → Contains t.nodes x → Positive x)) (records_of log)
    (λ earlier l u g h. more_positive (tables_of earlier) l.line l.rec g h)
    [] log good f.records (λ n m. absurd (Contains-nil m))

-- The event of the node at a position.
pub event_at : (t : Tables) (k : ℕ) (n : LogNode) → slice_get t.nodes k ≡ Some n → event_of t k ≡ n.done
event_at t k n at =
    let node : slice_get (graph_of t.nodes) k ≡ Some (record { done = n.done; waits = n.waits }) =
    slice_get-map _ t.nodes k ∙ ap (option_map _) at in
    ap (λ o. unwrap_or (option_map (λ (n : Node). n.done) o) 0) node

pub event_positive : (command : Command) (log : List Lined) → AllByRecursion Good (records_of log) → IsFaultless command log
    → (k : ℕ) (n : LogNode) → slice_get (tables_of log).nodes k ≡ Some n → 1 ≤ event_of (tables_of log) k
event_positive command log good f k n at = let t = tables_of log in
    subst (λ e. 1 ≤ e) (sym (event_at t k n at)) (positive command log good f n (contains_at t.nodes k n at))

-- The node that is found by the event of a node is this node.
pub found_by_event : (t : Tables) → AreLinked (graph_of t.nodes) → (k : ℕ) (n : LogNode) → slice_get t.nodes k ≡ Some n
    → find (λ (m : LogNode). m.done == event_of t k) t.nodes ≡ Some n
found_by_event t graph k n at =
    let is = event_at t k n at in
    let p = λ (m : LogNode). m.done == event_of t k in
    let there = find_any p t.nodes (any_at p t.nodes n (contains_at t.nodes k n at) (eq-eqb n.done (event_of t k) (sym is))) in
    let m : LogNode = there.0 in
    let found = found_at p t.nodes m there.1 in
    there.1 ∙ ap (λ n. Some n) (same_node m n found.0 (contains_at t.nodes k n at) (eqb-true m.done (event_of t k) found.1 ∙ is))
  where
    pairs : (ns : List LogNode) → AllPairs (λ (m n : Node). m.done ≢ n.done) (graph_of ns) → AllPairs (λ (m n : LogNode). m.done ≢ n.done) ns
    pairs [] h = AllPairs-nil (λ (m n : LogNode). m.done ≢ n.done)
    pairs (n ∷ ns) h =
        let first = AllPairs-first (λ (m n : Node). m.done ≢ n.done) (event_node n) (graph_of ns) h in
        let rest = AllPairs-rest (λ (m n : Node). m.done ≢ n.done) (event_node n) (graph_of ns) h in
        AllPairs-put (λ (m n : LogNode). m.done ≢ n.done) n ns (λ m is. first (event_node m) (map_member event_node ns m is)) (pairs ns rest)

    same_node : (m n : LogNode) → Contains t.nodes m → Contains t.nodes n → m.done ≡ n.done → m ≡ n
    same_node m n a b e =
        elim (AllPairs-cases (λ (m n : LogNode). m.done ≢ n.done) t.nodes
        (pairs t.nodes graph.apart) m n a b) [
          | inl is ↦ is
          | inr (inl differ) ↦ absurd (differ e)
          | inr (inr differ) ↦ absurd (differ (sym e))
        ]
