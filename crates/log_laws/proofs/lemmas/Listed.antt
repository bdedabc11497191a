-- In a log without a broken rule no two items have one id. Where lines list items, each item is listed once, and nothing else is.
use Rattle.std.proofs.Common.{◌≡◌, ◌≢◌, ℕ, ◌+◌, ◌<◌, ◌==◌, inl, inr, Bool, true, false, ◌||◌, List, [], ◌∷◌, ◌++◌, filter, fold, length, refl, sym, ap, ◌∙◌, subst, arith, Some, None, is_some, IsSome, find, slice_get, flat_map, append-nil, length-append, Contains, AllPairs}
use Rattle.std.specs.List.{list_any, list_all}
use Rattle.std.proofs.lemmas.Bool.{true≢false, not-false, or_parts, eq-eqb}
use Rattle.std.proofs.lemmas.Grind.{flat_map-append}
use Rattle.std.proofs.lemmas.List.Elements.{recursion_from_All, Contains-get_or, filter-append, Contains-append_cases}
use Rattle.std.proofs.lemmas.List.Folds.{list_any-append}
use Rattle.std.proofs.lemmas.Option.{slice_get_cases}
use Rattle.spy_grammar.specs.declared.code.Code.TheVariants as codes
use Rattle.vocabulary.specs.Prelude.{Record, Lined, Item, ItemBody, Serial, records_of, Tables, with_item, with_record, no_tables, tables_of, is_in, meets, id_of}
use Rattle.spy_grammar.specs.declared.record.Record.TheVariants as records
use Rattle.semantics.specs.SerialOrder.{listed}
use Rattle.semantics.specs.Rules.{is_declared, item_id, names, repeats_id, has_repeat, items_listed, items_declared, is_bad_serial}
use Rattle.semantics.specs.Faults.{records_fault}
use Rattle.log_laws.proofs.lemmas.Members.{is_in_of, member_in, meets_of}
use Rattle.list_lemmas.proofs.lemmas.Contained.{each_more, map_member, member_flat, any_at, find_any, none_at, all_at, Contains-nil, Contains-here}
use Rattle.list_lemmas.proofs.lemmas.Firsts.{contains_at}
use Rattle.list_lemmas.proofs.lemmas.Pairs.{Apart, AllPairs-append, AllPairs-push, apart_none, apart_put, AllPairs-nil}
use Rattle.log_laws.proofs.lemmas.Consistent.{Keeps}
use Rattle.log_laws.proofs.lemmas.Admitted.{Unbroken, rule_kept, by_records, keeps_of}

-- Whether a record lists items.
abbrev lists : Record → Bool
lists r = is_some (items_listed r)

-- No two items have one id, and each is declared by a record of the log. No id is listed twice, and each is that of an item. Once all lines that list items are read, they list each item of the log.
pub record AreListed (log : List Record) (t : Tables) : Type 0 where
  pub ids : AllPairs (λ (i j : Item). i.id ≢ j.id) t.items
  pub of_log : (i : Item) → Contains t.items i → (r : Record) × Contains log r × Contains (items_declared r) i.id
  pub once : Apart (listed t)
  pub known : (id : ℕ) → Contains (listed t) id → is_declared t (item_id id) ≡ true
  pub whole : 0 < length t.serials → length (filter lists log) ≡ length t.serials → (r : Record) (id : ℕ) → Contains log r
      → Contains (items_declared r) id → Contains (listed t) id

-- A list without a repeat has nothing twice.
not_repeated : (ns : List ℕ) → has_repeat ns ≡ false → Apart ns
not_repeated [] e = apart_none
not_repeated (n ∷ ns) e =
    let parts = or_parts (is_in ns n) (has_repeat ns) e in
    apart_put n ns (λ m is same. true≢false (sym (is_in_of ns n (subst (Contains ns) (sym same) is)) ∙ parts.0)) (not_repeated ns parts.1)

-- These facts stay with an item more, with a line more, and so with each record that breaks no rule.
one_more_item : (log : List Record) (t : Tables) (line id : ℕ) (body : ItemBody) → (r : Record) × Contains log r
    × Contains (items_declared r) id → list_any (is_declared t) (item_id id ∷ []) ≡ false
    → AreListed log t → AreListed log (with_item t line id body)
one_more_item log t line id body of new h =
    let fresh = none_at (is_declared t) (item_id id ∷ []) (item_id id) new (Contains-here []) in
    record {
      ids = AllPairs-push (λ (i j : Item). i.id ≢ j.id) t.items _ h.ids
          (λ i m same. true≢false (sym (eq-eqb i.id id same) ∙ none_at (λ (i : Item). i.id == id) t.items i fresh m));
      of_log = each_more _ t.items _ h.of_log of;
      once = h.once;
      known = λ n m. list_any-append (λ (i : Item). i.id == n) t.items _ ∙ rw (h.known n m) refl;
      whole = h.whole;
    }

one_more_line : (log : List Record) (t : Tables) (line : ℕ) (ids : List ℕ) → Keeps t (records.Serial ids)
    → is_bad_serial log t (records.Serial ids) ≡ false
    → AreListed log t → AreListed log (with_record t line (records.Serial ids))
one_more_line log t line ids k good h =
    let s : Serial = record { line = line; ids = ids } in
    let more : flat_map (λ (s : Serial). s.ids) (t.serials ++ s ∷ []) ≡ listed t ++ ids =
    flat_map-append (λ (s : Serial). s.ids) t.serials (s ∷ []) ∙ ap (λ ns. listed t ++ ns) (append-nil ids) in
    let last = λ (r : Record). list_all (is_in (listed t ++ ids)) (items_declared r) in
    let rules = or_parts (has_repeat ids || meets ids (listed t)) _ good in
    let twice = or_parts (has_repeat ids) (meets ids (listed t)) rules.0 in
    record {
      ids = h.ids;
      of_log = h.of_log;
      once = subst Apart (sym more) (AllPairs-append (λ m n. m ≢ n) (listed t) ids h.once (not_repeated ids twice.0)
          (λ m n a b same. true≢false (sym (meets_of ids (listed t) n b (subst (Contains (listed t)) same a)) ∙ twice.1)));
      known = λ n m. elim (Contains-append_cases (listed t) ids n (subst (λ ns. Contains ns n) more m)) [
        | inl earlier ↦ h.known n earlier
        | inr here ↦ all_at (is_declared t) (names (records.Serial ids)) (item_id n) k.declared (map_member (λ id. item_id id) ids n here)
      ];
      whole = λ _ count r id m is.
          let all : list_all last log ≡ true = not-false _
          (rw (eq-eqb (length (filter lists log)) (length t.serials + 1) (count ∙ length-append t.serials (s ∷ []))) at rules.1) in
          subst (λ ns. Contains ns id) (sym more) (member_in (listed t ++ ids) id
          (all_at (is_in (listed t ++ ids)) (items_declared r) id (all_at last log r all m) is));
    }

one_more : (log : List Record) (t : Tables) (line : ℕ) (r : Record) → Contains log r → Keeps t r → repeats_id t r ≡ false
    → is_bad_serial log t r ≡ false
    → AreListed log t → AreListed log (with_record t line r)
one_more log t line (records.Task id) m k new good h = one_more_item log t line id _ (records.Task id, m, Contains-here []) new h
one_more log t line (records.Fill id tree space fields n) m k new good h =
    one_more_item log t line id _ (records.Fill id tree space fields n, m, Contains-here []) new h
one_more log t line (records.Serial ids) m k new good h = one_more_line log t line ids k good h
one_more log t line _ m k new good h = record { ids = h.ids; of_log = h.of_log; once = h.once; known = h.known; whole = h.whole }

one_more_unbroken : (log : List Record) (earlier : List Lined) (l : Lined) → Unbroken log earlier l.rec → Contains log l.rec
    → AreListed log (tables_of earlier) → AreListed log (with_record (tables_of earlier) l.line l.rec)
one_more_unbroken log earlier l u m = one_more log (tables_of earlier) l.line l.rec m (keeps_of log earlier l.rec u)
    (rule_kept codes.RepeatedId refl u) (rule_kept codes.Serial refl u)

pub are_listed : (log : List Lined) → records_fault (records_of log) [] log ≡ None → AreListed (records_of log) (tables_of log)
are_listed log none = by_records (Contains (records_of log)) (AreListed (records_of log)) (records_of log)
    (one_more_unbroken (records_of log))
    [] log (recursion_from_All _ (records_of log) (λ k d lt. (Contains-get_or (records_of log) k d lt))) none
    (record { ids = AllPairs-nil (λ (i j : Item). i.id ≢ j.id); of_log = λ i m. absurd (Contains-nil m); once = apart_none; known = λ n m. absurd (Contains-nil m); whole = λ some. absurd (omega (arith, some)) })

-- ---- all lines that list items

-- Each record that lists items adds a line to the tables.
line_added : (t : Tables) (line : ℕ) (r : Record)
    → length (with_record t line r).serials ≡ length t.serials + length (filter lists (r ∷ []))
line_added t line (records.Serial ids) = length-append t.serials _
line_added t line _ = omega arith

lines_counted : (t : Tables) (log : List Lined)
    → length (fold (λ t (l : Lined). with_record t l.line l.rec) t log).serials ≡ length t.serials + length (filter lists (records_of log))
lines_counted t [] = omega arith
lines_counted t (l ∷ log) =
    let split = ap length (filter-append lists (l.rec ∷ []) (records_of log)) ∙ length-append (filter lists (l.rec ∷ [])) _ in
    omega (arith, lines_counted (with_record t l.line l.rec) log, line_added t l.line l.rec, split)

-- The item at a position.
pub item_at : (items : List Item) (k : ℕ) → k < length items → (i : Item) × (slice_get items k ≡ Some i)
item_at items k lt = elim (slice_get_cases items k).1 [ inl at ↦ (at.0, at.2) | inr past ↦ absurd (omega (arith, lt, past.0)) ]

-- Where a line lists items, each item is listed.
pub each_listed : (log : List Lined) → records_fault (records_of log) [] log ≡ None → 0 < length (tables_of log).serials → (item : ℕ)
    → item < length (tables_of log).items
    → Contains (listed (tables_of log)) (id_of (tables_of log) item)
each_listed log none some item lt =
    let h = are_listed log none in
    let i = item_at (tables_of log).items item lt in
    let of = h.of_log i.0 (contains_at (tables_of log).items item i.0 i.1) in
    rw i.1 (h.whole some (omega (arith, lines_counted no_tables log)) of.0 i.0.id of.1 of.2)

-- A line that lists an id is found.
pub line_found : (serials : List Serial) (id : ℕ) → Contains (flat_map (λ (s : Serial). s.ids) serials) id
    → IsSome (find (λ (s : Serial). is_in s.ids id) serials)
line_found serials id m =
    let at = member_flat (λ (s : Serial). s.ids) serials id m in
    ap is_some (find_any (λ (s : Serial). is_in s.ids id) serials (any_at _ serials at.0 at.1 (is_in_of at.0.ids id at.2))).1
