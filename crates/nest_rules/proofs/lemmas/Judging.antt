-- The records of a nested log that are not plain, judged one by one, show the fault that is shown of the log.
use Rattle.std.proofs.Common.{◌≡◌, ℕ, Bool, true, false, not, ◌&&◌, List, [], ◌∷◌, ◌++◌, refl, sym, ap, ◌∙◌, subst, Option, Some, None, find, fold, append_assoc, if◌then◌else◌, All}
use Rattle.std.specs.List.{list_all, AllByRecursion}
use Rattle.std.specs.Option.{option_or, option_map}
use Rattle.std.proofs.lemmas.Bool.{and_parts, not-false}
use Rattle.std.proofs.lemmas.List.Elements.{filter_map-append, recursion_from_All, All-from_recursion}
use Rattle.std.proofs.lemmas.List.Sums.{fold-append}
use Rattle.vocabulary.specs.Prelude.{Code, Lined, Good, Tables, records_of, with_record, no_tables, tables_of, Fault}
use Rattle.spy_grammar.specs.declared.code.Code.TheVariants as codes
use Rattle.spy_grammar.specs.declared.nested.NRecord.{NRecord}
use Rattle.spy_grammar.specs.declared.nested.NRecord.TheVariants as records
use Rattle.spy_grammar.specs.declared.nested.NLined.{NLined}
use Rattle.spy_grammar.specs.Nested.{GoodNested}
use Rattle.semantics.specs.Rules.{is_declared, tree_id, exceeds_tree}
use Rattle.semantics.specs.Faults.{at_line, records_fault}
use Rattle.semantics.specs.Nesting.{Nesting, no_nesting, with_nested, nesting_of, plain_line, plain_log, nested_tables, is_group, named_groups, is_late_nested, repeats_group, is_late_group, is_outside_tree, has_other_fields, nested_rules, breaks_nested, nested_in, groups_fault}
use Rattle.nest_rules.specs.declared.pending.Pending.{Pending}
use Rattle.nest_rules.specs.Pending.{knows, pending_from, with_plain, broken, with_pending, pending_fault}
use Rattle.nest_rules.proofs.lemmas.KeptFields.{same_fields}

nested_more : (earlier : List NLined) (l : NLined) → nesting_of (earlier ++ l ∷ []) ≡ with_nested (nesting_of earlier) l.rec
nested_more earlier l = fold-append (λ n (l : NLined). with_nested n l.rec) no_nesting earlier (l ∷ [])

tables_more : (earlier : List NLined) (line : ℕ) (r : NRecord)
    → nested_tables (earlier ++ record { line = line; rec = r } ∷ []) ≡ with_plain (nested_tables earlier) (record { line = line; rec = r })
tables_more earlier line r =
    ap tables_of (filter_map-append plain_line earlier (record { line = line; rec = r } ∷ []))
    ∙ fold-append (λ t (l : Lined). with_record t l.line l.rec) no_tables (plain_log earlier)
    (plain_log (record { line = line; rec = r } ∷ [])) ∙ one (nested_tables earlier) line r
  where
    one : (t : Tables) (line : ℕ) (r : NRecord) → fold (λ t (l : Lined). with_record t l.line l.rec) t
        (plain_log (record { line = line; rec = r } ∷ [])) ≡ with_plain t (record { line = line; rec = r })
    one t line (records.Plain r) = refl
    one t line _ = refl

-- ---- the first rule that is broken

same_chain : (late again unknown many outside fields others : Bool) → (unknown ≡ false → fields ≡ others)
    → (if late then Some codes.TooManyRecords else if again then Some codes.RepeatedId else if unknown then Some codes.UnknownId
    else if many then Some codes.TooManyGroups else if outside then Some codes.NotInTree else if fields then Some codes.Fields
    else None)
    ≡ (if late then Some codes.TooManyRecords else if again then Some codes.RepeatedId else if unknown then Some codes.UnknownId
    else if many then Some codes.TooManyGroups else if outside then Some codes.NotInTree else if others then Some codes.Fields
    else None)
same_chain true again unknown many outside fields others h = refl
same_chain false true unknown many outside fields others h = refl
same_chain false false true many outside fields others h = refl
same_chain false false false many outside fields others h = rw (h refl) refl

fields_when_known : (log : List NLined) (earlier rest : List NLined) (r : NRecord) → log ≡ earlier ++ rest
    → records_fault (records_of (plain_log log)) [] (plain_log log) ≡ None → knows (nested_tables earlier) r ≡ true
    → has_other_fields (nested_tables earlier) r ≡ has_other_fields (nested_tables log) r
fields_when_known log earlier rest (records.Greq group tree space fields access) is e known =
    let parts : plain_log log ≡ plain_log earlier ++ plain_log rest = ap plain_log is ∙ filter_map-append plain_line earlier rest in
    same_fields (records_of (plain_log log)) (plain_log earlier) (plain_log rest) tree fields
    (subst (λ ls. records_fault (records_of (plain_log log)) [] ls ≡ None) parts e)
    (and_parts (is_declared (nested_tables earlier) (tree_id tree)) _ known).0
    ∙ ap (λ (ls : List Lined). exceeds_tree (tables_of ls) tree fields) (sym parts)
fields_when_known log earlier rest _ is e known = refl

first_broken : (log earlier rest : List NLined) (line : ℕ) (r : NRecord) → log ≡ earlier ++ rest
    → records_fault (records_of (plain_log log)) [] (plain_log log) ≡ None
    → find (breaks_nested (nested_in (nested_tables log) earlier r)) nested_rules
    ≡ broken (nested_tables log) (nesting_of earlier) (record { line = line; rec = r; known = knows (nested_tables earlier) r })
first_broken log earlier rest line r is e =
    let n : Nesting = nesting_of earlier in
    let t : Tables = nested_tables earlier in
    same_chain (is_late_nested n r) (repeats_group n r) (not (list_all (is_group n) (named_groups r) && knows t r)) (is_late_group n r)
    (is_outside_tree (nested_tables log) r) (has_other_fields t r) (has_other_fields (nested_tables log) r)
    (λ known. fields_when_known log earlier rest r is e
    (and_parts (list_all (is_group n) (named_groups r)) (knows t r) (not-false _ known)).1)

-- ---- the first record that breaks one

abbrev Judged : List NLined → List NLined → Type 0
Judged log rest = (earlier : List NLined) → log ≡ earlier ++ rest
    → groups_fault (nested_tables log) earlier rest
    ≡ pending_fault (nested_tables log) (nesting_of earlier) (pending_from (nested_tables earlier) rest)

-- After a record.
judged_on : (log rest earlier : List NLined) (line : ℕ) (r : NRecord) → Judged log rest
    → log ≡ (earlier ++ record { line = line; rec = r } ∷ []) ++ rest
    → groups_fault (nested_tables log) (earlier ++ record { line = line; rec = r } ∷ []) rest
    ≡ pending_fault (nested_tables log) (with_nested (nesting_of earlier) r)
    (pending_from (with_plain (nested_tables earlier) (record { line = line; rec = r })) rest)
judged_on log rest earlier line r later at =
    later (earlier ++ record { line = line; rec = r } ∷ []) at
    ∙ ap (λ (n : Nesting). pending_fault (nested_tables log) n
    (pending_from (nested_tables (earlier ++ record { line = line; rec = r } ∷ [])) rest))
    (nested_more earlier (record { line = line; rec = r }))
    ∙ ap (λ (t : Tables). pending_fault (nested_tables log) (with_nested (nesting_of earlier) r) (pending_from t rest))
    (tables_more earlier line r)

-- At one that is not plain.
judged_at : (log rest earlier : List NLined) (line : ℕ) (r : NRecord) → records_fault (records_of (plain_log log)) [] (plain_log log) ≡ None
    → Judged log rest → log ≡ (earlier ++ record { line = line; rec = r } ∷ []) ++ rest
    → groups_fault (nested_tables log) earlier (record { line = line; rec = r } ∷ rest)
    ≡ pending_fault (nested_tables log) (nesting_of earlier)
    (record { line = line; rec = r; known = knows (nested_tables earlier) r }
    ∷ pending_from (with_plain (nested_tables earlier) (record { line = line; rec = r })) rest)
judged_at log rest earlier line r e later at =
    let whole : log ≡ earlier ++ record { line = line; rec = r } ∷ rest =
    at ∙ append_assoc earlier (record { line = line; rec = r } ∷ []) rest in
    ap (λ (o : Option Code). option_or (option_map (λ code. at_line code line) o)
    (groups_fault (nested_tables log) (earlier ++ record { line = line; rec = r } ∷ []) rest))
    (first_broken log earlier (record { line = line; rec = r } ∷ rest) line r whole e)
    ∙ ap (λ (o : Option Fault). option_or (option_map (λ code. at_line code line)
    (broken (nested_tables log) (nesting_of earlier) (record { line = line; rec = r; known = knows (nested_tables earlier) r }))) o)
    (judged_on log rest earlier line r later at)

judged : (log rest : List NLined) → records_fault (records_of (plain_log log)) [] (plain_log log) ≡ None → Judged log rest
judged log [] e = λ earlier is. refl
judged log (l ∷ rest) e = λ earlier is. by_kind log rest earlier l.line l.rec e (judged log rest e) (is
    ∙ sym (append_assoc earlier (l ∷ []) rest))
  where
    by_kind : (log rest earlier : List NLined) (line : ℕ) (r : NRecord)
        → records_fault (records_of (plain_log log)) [] (plain_log log) ≡ None → Judged log rest
        → log ≡ (earlier ++ record { line = line; rec = r } ∷ []) ++ rest
        → groups_fault (nested_tables log) earlier (record { line = line; rec = r } ∷ rest)
        ≡ pending_fault (nested_tables log) (nesting_of earlier)
        (pending_from (nested_tables earlier) (record { line = line; rec = r } ∷ rest))
    by_kind log rest earlier line (records.Plain r) e later at = judged_on log rest earlier line (records.Plain r) later at
    by_kind log rest earlier line (records.Group id parent) e later at =
        judged_at log rest earlier line (records.Group id parent) e later at
    by_kind log rest earlier line (records.Greq group tree space fields access) e later at =
        judged_at log rest earlier line (records.Greq group tree space fields access) e later at
    by_kind log rest earlier line (records.Member task group) e later at =
        judged_at log rest earlier line (records.Member task group) e later at

pub pending_is : (log : List NLined) → records_fault (records_of (plain_log log)) [] (plain_log log) ≡ None
    → groups_fault (nested_tables log) [] log ≡ pending_fault (nested_tables log) no_nesting (pending_from no_tables log)
pending_is log e = judged log log e [] refl

-- ---- what is nested

abbrev SameNesting : List NLined → Type 0
SameNesting log = (n : Nesting) (t : Tables) → fold (λ n (l : NLined). with_nested n l.rec) n log ≡ fold with_pending n (pending_from t log)

same_nesting : (log : List NLined) → SameNesting log
same_nesting [] = λ n t. refl
same_nesting (l ∷ log) = λ n t. by_kind n t l.line l.rec log (same_nesting log)
  where
    by_kind : (n : Nesting) (t : Tables) (line : ℕ) (r : NRecord) (log : List NLined) → SameNesting log
        → fold (λ n (l : NLined). with_nested n l.rec) n (record { line = line; rec = r } ∷ log)
        ≡ fold with_pending n (pending_from t (record { line = line; rec = r } ∷ log))
    by_kind n t line (records.Plain r) log later = later n (with_record t line r)
    by_kind n t line (records.Group id parent) log later = later (with_nested n (records.Group id parent)) t
    by_kind n t line (records.Greq group tree space fields access) log later =
        later (with_nested n (records.Greq group tree space fields access)) t
    by_kind n t line (records.Member task group) log later = later (with_nested n (records.Member task group)) t

pub nesting_is : (log : List NLined) → nesting_of log ≡ fold with_pending no_nesting (pending_from no_tables log)
nesting_is log = same_nesting log no_nesting no_tables

abbrev StaysGood : List NLined → Type 0
StaysGood log = (t : Tables) → AllByRecursion (λ (l : NLined). GoodNested l.rec) log
    → AllByRecursion (λ (p : Pending). GoodNested p.rec) (pending_from t log)

stays_good : (log : List NLined) → StaysGood log
stays_good [] = λ t h. tt
stays_good (l ∷ log) = λ t h. by_kind t l.line l.rec log (stays_good log) h.0 h.1
  where
    by_kind : (t : Tables) (line : ℕ) (r : NRecord) (log : List NLined) → StaysGood log → GoodNested r
        → AllByRecursion (λ (l : NLined). GoodNested l.rec) log
        → AllByRecursion (λ (p : Pending). GoodNested p.rec) (pending_from t (record { line = line; rec = r } ∷ log))
    by_kind t line (records.Plain r) log later g h = later (with_record t line r) h
    by_kind t line (records.Group id parent) log later g h = (g, later t h)
    by_kind t line (records.Greq group tree space fields access) log later g h = (g, later t h)
    by_kind t line (records.Member task group) log later g h = (g, later t h)

pub pending_good : (log : List NLined) → All (λ (l : NLined). GoodNested l.rec) log
    → All (λ (p : Pending). GoodNested p.rec) (pending_from no_tables log)
pending_good log good = All-from_recursion (λ (p : Pending). GoodNested p.rec) (pending_from no_tables log)
    (stays_good log no_tables (recursion_from_All (λ (l : NLined). GoodNested l.rec) log good))

-- ---- the plain records

abbrev StaysPlain : List NLined → Type 0
StaysPlain log = AllByRecursion (λ (l : NLined). GoodNested l.rec) log → AllByRecursion (λ (l : Lined). Good l.rec) (plain_log log)

stays_plain : (log : List NLined) → StaysPlain log
stays_plain [] = λ h. tt
stays_plain (l ∷ log) = λ h. by_kind l.line l.rec log (stays_plain log) h.0 h.1
  where
    by_kind : (line : ℕ) (r : NRecord) (log : List NLined) → StaysPlain log → GoodNested r
        → AllByRecursion (λ (l : NLined). GoodNested l.rec) log
        → AllByRecursion (λ (l : Lined). Good l.rec) (plain_log (record { line = line; rec = r } ∷ log))
    by_kind line (records.Plain r) log later g h = (g, later h)
    by_kind line (records.Group id parent) log later g h = later h
    by_kind line (records.Greq group tree space fields access) log later g h = later h
    by_kind line (records.Member task group) log later g h = later h

pub plain_good : (log : List NLined) → All (λ (l : NLined). GoodNested l.rec) log → All (λ (l : Lined). Good l.rec) (plain_log log)
plain_good log good = All-from_recursion (λ (l : Lined). Good l.rec) (plain_log log)
    (stays_plain log (recursion_from_All (λ (l : NLined). GoodNested l.rec) log good))
