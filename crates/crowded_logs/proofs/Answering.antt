-- Records that answer what the first ones of a log ask are as good as all later ones.
use Rattle.std.proofs.Common.{◌≡◌, ℕ, ◌+◌, ◌==◌, arith, Bool, true, false, not, ◌&&◌, ◌||◌, List, [], ◌∷◌, ◌++◌, length, filter, fold, Option, Some, None, is_some, refl, sym, ap, ap₂, subst, ◌∙◌, eq-eqb}
use Rattle.std.specs.Prelude.{unwrap_or}
use Rattle.std.specs.List.{list_any, list_all}
use Rattle.std.specs.Option.{option_map_or}
use Rattle.std.proofs.lemmas.Bool.{eqb-true, not-true, or_parts, or_right}
use Rattle.std.proofs.lemmas.Grind.{flat_map-append}
use Rattle.std.proofs.lemmas.List.{append-nil, length-append, map-append}
use Rattle.std.proofs.lemmas.List.Elements.{filter-append}
use Rattle.std.proofs.lemmas.List.Folds.{list_any-append}
use Rattle.std.proofs.Common.{append_assoc}
use Rattle.vocabulary.specs.Prelude.{Code, Record, Lined, Node, Tables, records_of, tables_of, no_tables, with_record, is_in, is_within, meets}
use Rattle.semantics.specs.declared.tables.Serial as serials
use Rattle.spy_grammar.specs.declared.code.Code.TheVariants as codes
use Rattle.spy_grammar.specs.declared.record.Record.TheVariants.{Task, Serial}
use Rattle.semantics.specs.SerialOrder.{listed}
use Rattle.semantics.specs.Faults.{breaks, first_broken, record_in, record_rules}
use Rattle.semantics.specs.Rules.{node_of, completes, runs_task, items_listed, items_declared, has_no_run, waits_for_none, has_repeat, is_bad_serial}
use Rattle.crowded_logs.specs.Crowded.{waits_on, declares_task, lists_items, ids_listed, has_unlisted, Answer}
use Rattle.crowded_logs.proofs.Tests.{same_bool, and_alike, or_left, all_same, list_all-any, any_alike, none_counted}
use Rattle.list_lemmas.proofs.lemmas.Contained.{find_same}

-- ---- the lines of a log that list items

line_added : (t : Tables) (line : ℕ) (r : Record)
    → length (with_record t line r).serials ≡ length t.serials + length (filter lists_items (r ∷ []))
line_added t line (Serial ids) = length-append t.serials _
line_added t line _ = omega arith

lines_counted : (t : Tables) (log : List Lined)
    → length (fold (λ t (l : Lined). with_record t l.line l.rec) t log).serials ≡ length t.serials + length (filter lists_items (records_of log))
lines_counted t [] = omega arith
lines_counted t (l ∷ log) =
    let split = ap length (filter-append lists_items (l.rec ∷ []) (records_of log)) ∙ length-append (filter lists_items (l.rec ∷ [])) _ in
    omega (arith, lines_counted (with_record t l.line l.rec) log, line_added t l.line l.rec, split)

line_listed : (t : Tables) (line : ℕ) (r : Record) → listed (with_record t line r) ≡ listed t ++ unwrap_or (items_listed r) []
line_listed t line (Serial ids) =
    flat_map-append (λ (s : serials.Serial). s.ids) t.serials _ ∙ ap (λ ns. listed t ++ ns) (append-nil ids)
line_listed t line _ = sym (append-nil (listed t))

lines_listed : (t : Tables) (log : List Lined)
    → listed (fold (λ t (l : Lined). with_record t l.line l.rec) t log) ≡ listed t ++ ids_listed (records_of log)
lines_listed t [] = sym (append-nil (listed t))
lines_listed t (l ∷ log) =
    lines_listed (with_record t l.line l.rec) log ∙ ap (λ ns. ns ++ ids_listed (records_of log)) (line_listed t l.line l.rec)
    ∙ append_assoc (listed t) (unwrap_or (items_listed l.rec) []) (ids_listed (records_of log))

none_listed : (rs : List Record) → list_any lists_items rs ≡ false → ids_listed rs ≡ []
none_listed [] none = refl
none_listed (r ∷ rs) none =
    let parts = or_parts (lists_items r) (list_any lists_items rs) none in
    ap₂ (λ (a b : List ℕ). a ++ b) (by (items_listed r) parts.0) (none_listed rs parts.1)
  where
    by : (o : Option (List ℕ)) → is_some o ≡ false → unwrap_or o [] ≡ []
    by None e = refl
    by (Some ids) e = absurd cc

-- ---- the three rules that ask of the log as a whole

module _ (L M : List Record) where
  no_run_same : (r : Record) → ((id : ℕ) → declares_task id r ≡ true → list_any (runs_task id) L ≡ list_any (runs_task id) M)
      → has_no_run L r ≡ has_no_run M r
  no_run_same (Task id) h = ap not (h id (eq-eqb id id refl))
  no_run_same r h = refl

  undefined_same : (r : Record) → ((event : ℕ) → waits_on event r ≡ true → list_any (completes event) L ≡ list_any (completes event) M)
      → waits_for_none L r ≡ waits_for_none M r
  undefined_same r = by (node_of r)
    where
      by : (o : Option Node)
          → ((event : ℕ) → option_map_or (λ (n : Node). is_in n.waits event) o false ≡ true → list_any (completes event) L ≡ list_any (completes event) M)
          → option_map_or (λ (n : Node). not (list_all (λ event. list_any (completes event) L) n.waits)) o false
          ≡ option_map_or (λ (n : Node). not (list_all (λ event. list_any (completes event) M) n.waits)) o false
      by None h = refl
      by (Some n) h = ap not (all_same (λ event. list_any (completes event) L) (λ event. list_any (completes event) M) n.waits h)

  serial_same : (t : Tables) (r : Record)
      → ((ids : List ℕ) → r ≡ Serial ids
      → ((length (filter lists_items L) == length t.serials + 1) && not (list_all (λ q. is_within (items_declared q) (listed t ++ ids)) L))
      ≡ ((length (filter lists_items M) == length t.serials + 1) && not (list_all (λ q. is_within (items_declared q) (listed t ++ ids)) M)))
      → is_bad_serial L t r ≡ is_bad_serial M t r
  serial_same t (Serial ids) h = ap (λ b. has_repeat ids || meets ids (listed t) || b) (h ids refl)
  serial_same t r h = refl

-- After so many records that list items comes the last one, exactly where no later one lists items.
at_last : (count n m : ℕ) → count ≡ n + 1 + m → (count == n + 1) ≡ (m == 0)
at_last count n m e =
    same_bool _ _ (λ h. eq-eqb m 0 (omega (arith, e, eqb-true count (n + 1) h))) (λ h. eq-eqb count (n + 1) (omega (arith, e, eqb-true m 0 h)))

-- ---- a record of the first ones

module _ (first later kept : List Record) (a : Answer first later kept) where
  events_same : (event : ℕ) → list_any (waits_on event) first ≡ true
      → list_any (completes event) (first ++ later) ≡ list_any (completes event) (first ++ kept)
  events_same event asked = any_alike (completes event) first later kept (same_bool _ _ (a.events event asked) (a.part (completes event)))

  tasks_same : (task : ℕ) → list_any (declares_task task) first ≡ true
      → list_any (runs_task task) (first ++ later) ≡ list_any (runs_task task) (first ++ kept)
  tasks_same task asked = any_alike (runs_task task) first later kept (same_bool _ _ (a.tasks task asked) (a.part (runs_task task)))

  lists_same : list_any lists_items later ≡ list_any lists_items kept
  lists_same = same_bool _ _ a.lists (a.part lists_items)

  items_same : list_all (λ q. is_within (items_declared q) (ids_listed first)) (first ++ later)
      ≡ list_all (λ q. is_within (items_declared q) (ids_listed first)) (first ++ kept)
  items_same =
      let declared = λ (q : Record). is_within (items_declared q) (ids_listed first) in
      list_all-any declared (first ++ later)
      ∙ ap not (any_alike (has_unlisted first) first later kept (same_bool _ _ a.items (a.part (has_unlisted first))))
      ∙ sym (list_all-any declared (first ++ kept))

  -- Whether a record of the first ones is the last to list items, and leaves one out.
  left_out_same : (before rest : List Record) (r : Record) (ids : List ℕ) (t : Tables) → r ≡ Serial ids → first ≡ before ++ r ∷ rest
      → length t.serials ≡ length (filter lists_items before) → listed t ≡ ids_listed before
      → ((length (filter lists_items (first ++ later)) == length t.serials + 1)
      && not (list_all (λ q. is_within (items_declared q) (listed t ++ ids)) (first ++ later)))
      ≡ ((length (filter lists_items (first ++ kept)) == length t.serials + 1)
      && not (list_all (λ q. is_within (items_declared q) (listed t ++ ids)) (first ++ kept)))
  left_out_same before rest r ids t is split count lists =
      let n = length t.serials in
      ap (λ b. b && not (list_all (λ q. is_within (items_declared q) (listed t ++ ids)) (first ++ later))) (last_of later)
      ∙ and_alike (not (list_any lists_items (rest ++ later))) _ _ (λ none. ap not (all_within (not-true _ none)))
      ∙ ap (λ b. not b && not (list_all (λ q. is_within (items_declared q) (listed t ++ ids)) (first ++ kept)))
      (any_alike lists_items rest later kept lists_same)
      ∙ sym (ap (λ b. b && not (list_all (λ q. is_within (items_declared q) (listed t ++ ids)) (first ++ kept))) (last_of kept))
    where
      here : length (filter lists_items (r ∷ [])) ≡ 1
      here = ap (λ q. length (filter lists_items (q ∷ []))) is

      last_of : (more : List Record) → (length (filter lists_items (first ++ more)) == length t.serials + 1) ≡ not (list_any lists_items (rest ++ more))
      last_of more =
          let parts : length (filter lists_items (first ++ more))
          ≡ length (filter lists_items before) + (length (filter lists_items (r ∷ [])) + length (filter lists_items (rest ++ more))) =
          ap (λ rs. length (filter lists_items (rs ++ more))) split
          ∙ ap (λ rs. length (filter lists_items rs)) (append_assoc before (r ∷ rest) more)
          ∙ ap length (filter-append lists_items before (r ∷ rest ++ more)) ∙ length-append (filter lists_items before) _
          ∙ ap (λ n. length (filter lists_items before) + n)
          (ap length (filter-append lists_items (r ∷ []) (rest ++ more)) ∙ length-append (filter lists_items (r ∷ [])) _) in
          at_last _ (length t.serials) (length (filter lists_items (rest ++ more))) (omega (arith, parts, here, count))
          ∙ none_counted lists_items (rest ++ more)

      all_listed : list_any lists_items (rest ++ later) ≡ false → listed t ++ ids ≡ ids_listed first
      all_listed none =
          let unlisted = none_listed rest (or_parts (list_any lists_items rest) (list_any lists_items later) (sym (list_any-append lists_items rest later) ∙ none)).0 in
          sym (ap ids_listed split ∙ flat_map-append (λ q. unwrap_or (items_listed q) []) before (r ∷ rest)
          ∙ ap₂ (λ (a b : List ℕ). a ++ b) (sym lists) (ap₂ (λ (q : Record) (b : List ℕ). unwrap_or (items_listed q) [] ++ b) is unlisted ∙ append-nil ids))

      all_within : list_any lists_items (rest ++ later) ≡ false
          → list_all (λ q. is_within (items_declared q) (listed t ++ ids)) (first ++ later)
          ≡ list_all (λ q. is_within (items_declared q) (listed t ++ ids)) (first ++ kept)
      all_within none =
          let Same = λ (ns : List ℕ). list_all (λ q. is_within (items_declared q) ns) (first ++ later) ≡ list_all (λ q. is_within (items_declared q) ns) (first ++ kept) in
          subst Same (sym (all_listed none)) items_same

-- ---- a record on its line

module _ (first later kept : List Lined) (a : Answer (records_of first) (records_of later) (records_of kept)) where
  -- What a record breaks of the rules that ask of the log as a whole is the same; and no other rule asks of it.
  breaks_same : (L M : List Record) (earlier : List Lined) (r : Record)
      → has_no_run L r ≡ has_no_run M r → waits_for_none L r ≡ waits_for_none M r
      → is_bad_serial L (tables_of earlier) r ≡ is_bad_serial M (tables_of earlier) r
      → (code : Code) → breaks (record_in L earlier r) code ≡ breaks (record_in M earlier r) code
  breaks_same L M earlier r run wait serial codes.NoRun = run
  breaks_same L M earlier r run wait serial codes.UndefinedEvent = wait
  breaks_same L M earlier r run wait serial codes.Serial = serial
  breaks_same L M earlier r run wait serial code = refl

  pub broken_same : (earlier rest : List Lined) (l : Lined) → first ≡ earlier ++ l ∷ rest
      → first_broken (record_in (records_of (first ++ later)) earlier l.rec) ≡ first_broken (record_in (records_of (first ++ kept)) earlier l.rec)
  broken_same earlier rest l split =
      let fs = records_of first in
      let parts : fs ≡ records_of earlier ++ l.rec ∷ records_of rest =
      ap records_of split ∙ map-append (λ (k : Lined). k.rec) earlier (l ∷ rest) in
      let L = records_of first ++ records_of later in
      let M = records_of first ++ records_of kept in
      let asked : (p : Record → Bool) → p l.rec ≡ true → list_any p fs ≡ true = λ p h.
      ap (list_any p) parts ∙ list_any-append p (records_of earlier) (l.rec ∷ records_of rest)
      ∙ or_right (list_any p (records_of earlier)) _ (or_left (p l.rec) (list_any p (records_of rest)) h) in
      let alike = find_same (breaks (record_in L earlier l.rec)) (breaks (record_in M earlier l.rec)) record_rules
      (λ rule _. breaks_same L M earlier l.rec
      (no_run_same L M l.rec (λ id h. tasks_same fs (records_of later) (records_of kept) a id (asked (declares_task id) h)))
      (undefined_same L M l.rec (λ event h. events_same fs (records_of later) (records_of kept) a event (asked (waits_on event) h)))
      (serial_same L M (tables_of earlier) l.rec (λ ids is.
      left_out_same fs (records_of later) (records_of kept) a (records_of earlier) (records_of rest) l.rec ids (tables_of earlier) is parts
      (omega (arith, lines_counted no_tables earlier)) (lines_listed no_tables earlier))) rule) in
      ap (λ (rs : List Record). first_broken (record_in rs earlier l.rec)) (map-append (λ (k : Lined). k.rec) first later)
      ∙ alike
      ∙ sym (ap (λ (rs : List Record). first_broken (record_in rs earlier l.rec)) (map-append (λ (k : Lined). k.rec) first kept))
