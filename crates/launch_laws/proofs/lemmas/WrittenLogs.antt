-- What a launch log without a fault writes is a log: each record has a spelling, and the text is no longer than an input may be.
use Rattle.std.proofs.Common.{◌≡◌, ℕ, ◌+◌, ◌^◌, ◌≤◌, ◌<◌, ◌==◌, ◌&&◌, Bool, false, List, [], ◌∷◌, ◌++◌, Option, Some, None, is_none, unwrap_or, IfSome, nat_lt, find, fold, length, All, refl, sym, subst, arith, length-append, Contains}
use Rattle.std.specs.List.{list_any, AllByRecursion}
use Rattle.std.specs.Option.{option_map, option_map_or}
use Rattle.std.proofs.lemmas.Bool.{eqb-true, le-ltb, ltb-false, or_parts, false≢true}
use Rattle.std.proofs.lemmas.List.Elements.{All-push, All-from_recursion, All-nil}
use Rattle.vocabulary.specs.Prelude.{IsNumberFrom, Code, Record, LRecord, Lined, LLined, PrivWord, Good, GoodLaunch, spelling, text_of, lined, lined_from, Sub, Tables, tables_of, with_record, no_tables}
use Rattle.spy_grammar.specs.declared.code.Code.TheVariants as codes
use Rattle.spy_grammar.specs.declared.record.Record.TheVariants as records
use Rattle.spy_grammar.specs.declared.launches.LRecord.TheVariants.{Plain, Launch, Lreq}
use Rattle.semantics.specs.declared.limits.TheConstants.{MOST_BYTES, MOST_COLOURS}
use Rattle.semantics.specs.TextFaults.{text_fault}
use Rattle.semantics.specs.Faults.{at_line, header_fault, ended_fault, count_fault}
use Rattle.semantics.specs.Launches.{TaskLaunch, Expanded, not_expanded, declared_by, launch_of, colours_of, space_under, for_tasks, writes, launches_by, with_launching, launch_records, written_log, names_no_launch, exceeds_ids, breaks_launch, launch_rules, launches_fault, framed, launch_fault}
use Rattle.list_lemmas.proofs.lemmas.Firsts.{map_cases, find_some}
use Rattle.list_lemmas.proofs.lemmas.Places.{all_found}
use Rattle.log_laws.proofs.lemmas.ReadLogs.{text_has_no_fault}
use Rattle.list_lemmas.proofs.lemmas.Contained.{both_none, unmapped_none, none_found}

-- ---- lists in which each has a property, by recursion

each_append : {X : Type 0} (P : X → Type 0) (xs ys : List X) → AllByRecursion P xs → AllByRecursion P ys → AllByRecursion P (xs ++ ys)
each_append P [] ys h k = k
each_append P (x ∷ xs) ys h k = (h.0, each_append P xs ys h.1 k)

first_each : {X : Type 0} (P : X → Type 0) (p : X → Bool) (xs : List X) (x : X) → AllByRecursion P xs → find p xs ≡ Some x → P x
first_each P p xs x h e = all_found P p xs x (All-from_recursion P xs h) e

-- ---- which records have a spelling

pub good_task : (id : ℕ) → 1 ≤ id → id < 2 ^ 32 → Good (records.Task id)
good_task id least most = ((least, most), tt)

-- A requirement with another task and another space.
pub good_req : (id tree space : ℕ) (fields : List ℕ) (access : PrivWord) (atomic : Bool) → Good (records.Req 1 tree 1 fields access atomic)
    → 1 ≤ id → id < 2 ^ 32 → IsNumberFrom 1 space → Good (records.Req id tree space fields access atomic)
good_req id tree space fields access atomic good least most spaced = ((least, most), (good.1.0, (spaced, good.1.1.1)))

pub good_tasks : (base : ℕ) (colours : List ℕ) → GoodLaunch (Launch base colours) → 1 ≤ base
good_tasks base colours good = good.0.0

pub ids_fit : (base : ℕ) (colours : List ℕ) → exceeds_ids (Launch base colours) ≡ false → base + length colours ≤ 2 ^ 32
ids_fit base colours e = ltb-false (2 ^ 32) (base + length colours)
    (or_parts (nat_lt MOST_COLOURS (length colours)) (nat_lt (2 ^ 32) (base + length colours)) e).1

pub good_base : (base tree part : ℕ) (fields : List ℕ) (access : PrivWord) (atomic : Bool)
    → GoodLaunch (Lreq base tree part fields access atomic) → 1 ≤ base
good_base base tree part fields access atomic good = good.0.0

pub good_reqs : (base tree part : ℕ) (fields : List ℕ) (access : PrivWord) (atomic : Bool)
    → GoodLaunch (Lreq base tree part fields access atomic) → Good (records.Req 1 tree 1 fields access atomic)
good_reqs base tree part fields access atomic good = ((omega arith, omega arith), (good.1.0, ((omega arith, omega arith), good.1.1.1)))

pub none_lacking : (e : Expanded) (base tree part : ℕ) (fields : List ℕ) (access : PrivWord) (atomic : Bool)
    → names_no_launch e (Lreq base tree part fields access atomic) ≡ false
    → list_any (λ colour. is_none (space_under (declared_by e) part colour)) (colours_of e base) ≡ false
none_lacking e base tree part fields access atomic h =
    (or_parts (is_none (launch_of e base)) (list_any (λ colour. is_none (space_under (declared_by e) part colour)) (colours_of e base)) h).1

-- ---- the spaces of subspaces

id_more : (t : Tables) (line : ℕ) (r : Record) → All (λ (s : Sub). IsNumberFrom 1 s.space) t.subs → Good r
    → All (λ (s : Sub). IsNumberFrom 1 s.space) (with_record t line r).subs
id_more t line (records.Sub part colour space) h good =
    All-push (λ (s : Sub). IsNumberFrom 1 s.space) t.subs (record { part = part; colour = colour; space = space }) h good.1.1.0
id_more t line _ h good = h

ids_from : (n : ℕ) (t : Tables) (rs : List Record) → All (λ (s : Sub). IsNumberFrom 1 s.space) t.subs → AllByRecursion Good rs
    → All (λ (s : Sub). IsNumberFrom 1 s.space) (fold (λ (u : Tables) (l : Lined). with_record u l.line l.rec) t (lined_from n rs)).subs
ids_from n t [] h good = h
ids_from n t (r ∷ rs) h good = ids_from (n + 1) (with_record t n r) rs (id_more t n r h good.0) good.1

-- The space of a subspace has an id.
pub space_good : (rs : List Record) (part colour : ℕ) → AllByRecursion Good rs → (o : Option ℕ)
    → o ≡ space_under (tables_of (lined rs)) part colour → IfSome o (IsNumberFrom 1)
space_good rs part colour good None e = tt
space_good rs part colour good (Some space) e =
    let test : Sub → Bool = λ (s : Sub). (s.part == part) && (s.colour == colour) in
    let subs = (tables_of (lined rs)).subs in
    let found = map_cases (λ (s : Sub). s.space) (find test subs) space (sym e) in
    subst (IsNumberFrom 1) found.2 (all_found (λ (s : Sub). IsNumberFrom 1 s.space) test subs found.0
    (ids_from 1 no_tables rs (All-nil (λ (s : Sub). IsNumberFrom 1 s.space)) good) found.1)

-- ---- how many records there are

pub length_text : (rs : List Record) → length rs ≤ length (text_of rs)
length_text [] = omega arith
length_text (r ∷ rs) = omega (arith, length-append (spelling r) (10 ∷ text_of rs), length_text rs)

-- ---- what is written so far

-- The ids of the tasks of a launch are ids.
abbrev HasIds : TaskLaunch → Type 0
HasIds l = (1 ≤ l.base) × (l.base + length l.colours ≤ 2 ^ 32)

record IsLog (e : Expanded) : Type 0 where
  good : AllByRecursion Good e.written
  ids : AllByRecursion HasIds e.launches
  short : length (text_of e.written) ≤ MOST_BYTES

tasks_good : (base : ℕ) (colours : List ℕ) → 1 ≤ base → base + length colours ≤ 2 ^ 32
    → AllByRecursion Good (for_tasks (λ id colour. records.Task id) base colours)
tasks_good base [] least most = tt
tasks_good base (c ∷ cs) least most = (
  good_task base least (omega (arith, most)),
  tasks_good (base + 1) cs (omega (arith, least)) (omega (arith, most)),
)

reqs_good : (rs : List Record) (tree part : ℕ) (fields : List ℕ) (access : PrivWord) (atomic : Bool) → AllByRecursion Good rs
    → Good (records.Req 1 tree 1 fields access atomic)
    → (base : ℕ) (colours : List ℕ) → 1 ≤ base → base + length colours ≤ 2 ^ 32
    → list_any (λ colour. is_none (space_under (tables_of (lined rs)) part colour)) colours ≡ false
    → AllByRecursion Good
    (for_tasks (λ id colour. records.Req id tree
    (unwrap_or (space_under (tables_of (lined rs)) part colour) 0) fields access atomic) base colours)
reqs_good rs tree part fields access atomic good one base [] least most found = tt
reqs_good rs tree part fields access atomic good one base (c ∷ cs) least most found =
    let parts = or_parts (is_none (space_under (tables_of (lined rs)) part c))
    (list_any (λ colour. is_none (space_under (tables_of (lined rs)) part colour)) cs) found in (
      good_req base tree _ fields access atomic one least (omega (arith, most))
          (some_good (space_under (tables_of (lined rs)) part c) parts.0 (space_good rs part c good _ refl)),
      reqs_good rs tree part fields access atomic good one (base + 1) cs (omega (arith, least)) (omega (arith, most)) parts.1,
    )
  where
    some_good : (o : Option ℕ) → is_none o ≡ false → IfSome o (IsNumberFrom 1) → IsNumberFrom 1 (unwrap_or o 0)
    some_good None none h = absurd (false≢true (sym none))
    some_good (Some space) none h = h

colours_fit : (e : Expanded) (base : ℕ) → base ≤ 2 ^ 32 → AllByRecursion HasIds e.launches → base + length (colours_of e base) ≤ 2 ^ 32
colours_fit e base most ids = by (launch_of e base) refl
  where
    by : (o : Option TaskLaunch) → launch_of e base ≡ o → base + length (option_map_or (λ (l : TaskLaunch). l.colours) o []) ≤ 2 ^ 32
    by None is = omega (arith, most)
    by (Some l) is =
        let same : l.base ≡ base = eqb-true l.base base (find_some (λ (x : TaskLaunch). x.base == base) e.launches l is).2 in
        omega (arith, same, (first_each HasIds (λ (x : TaskLaunch). x.base == base) e.launches l ids is).1)

-- What one record more writes has spellings.
writes_good : (e : Expanded) (r : LRecord) → IsLog e → GoodLaunch r → names_no_launch e r ≡ false → exceeds_ids r ≡ false
    → AllByRecursion Good (writes e r)
writes_good e (Plain (records.End n)) h good known within = (((omega arith, omega (arith, h.short, length_text e.written)), tt), tt)
writes_good e (Plain (records.Header version)) h good known within = (good, tt)
writes_good e (Plain r) h good known within = (good, tt)
writes_good e (Launch base colours) h good known within =
    tasks_good base colours (good_tasks base colours good) (ids_fit base colours within)
writes_good e (Lreq base tree part fields access atomic) h good known within =
    reqs_good e.written tree part fields access atomic h.good (good_reqs base tree part fields access atomic good) base (colours_of e base)
    (good_base base tree part fields access atomic good)
    (colours_fit e base (omega (arith, good.0.1)) h.ids) (none_lacking e base tree part fields access atomic known)

launches_fit : (e : Expanded) (r : LRecord) → IsLog e → GoodLaunch r → exceeds_ids r ≡ false → AllByRecursion HasIds (launches_by r)
launches_fit e (Plain r) h good within = tt
launches_fit e (Launch base colours) h good within = ((good_tasks base colours good, ids_fit base colours within), tt)
launches_fit e (Lreq base tree part fields access atomic) h good within = tt

one_more : (e : Expanded) (r : LRecord) → IsLog e → GoodLaunch r → find (breaks_launch e r) launch_rules ≡ None → IsLog (with_launching e r)
one_more e r h good none =
    let kept : (code : Code) → Contains launch_rules code → breaks_launch e r code ≡ false =
    λ code. none_found (breaks_launch e r) launch_rules code none in
    let known = kept codes.UnknownId (1, omega arith, refl) in
    let within = kept codes.LaunchRange (2, omega arith, refl) in
    record {
      good = each_append Good e.written (writes e r) h.good (writes_good e r h good known within);
      ids = each_append HasIds e.launches (launches_by r) h.ids (launches_fit e r h good within);
      short = ltb-false MOST_BYTES (length (text_of (e.written ++ writes e r))) (kept codes.TooLong (4, omega arith, refl));
    }

all_more : (e : Expanded) (log : List LLined) → IsLog e → AllByRecursion (λ (l : LLined). GoodLaunch l.rec) log
    → launches_fault e log ≡ None → IsLog (fold with_launching e (launch_records log))
all_more e [] h good none = h
all_more e (l ∷ log) h good none =
    let parts = both_none (option_map (λ code. at_line code l.line) (find (breaks_launch e l.rec) launch_rules))
    (launches_fault (with_launching e l.rec) log) none in
    all_more (with_launching e l.rec) log (one_more e l.rec h good.0
    (unmapped_none (λ code. at_line code l.line) (find (breaks_launch e l.rec) launch_rules) parts.0)) good.1 parts.1

no_launch_fault : (lines : ℕ) (log : List LLined) → launch_fault lines log ≡ None → launches_fault not_expanded log ≡ None
unfolding launch_fault
no_launch_fault lines log none =
    let past_header = both_none (header_fault lines (framed log)) _ none in
    let past_end = both_none (ended_fault lines (framed log)) _ past_header.1 in
    (both_none (count_fault (framed log)) (launches_fault not_expanded log) past_end.1).1

is_log : (lines : ℕ) (log : List LLined) → AllByRecursion (λ (l : LLined). GoodLaunch l.rec) log → launch_fault lines log ≡ None
    → IsLog (fold with_launching not_expanded (launch_records log))
is_log lines log good none = all_more not_expanded log (record { good = tt; ids = tt; short = omega arith }) good
    (no_launch_fault lines log none)

-- ---- what is written in all

pub written_good : (lines : ℕ) (log : List LLined) → AllByRecursion (λ (l : LLined). GoodLaunch l.rec) log → launch_fault lines log ≡ None
    → AllByRecursion Good (written_log log)
written_good lines log good none = (is_log lines log good none).good

pub written_short : (lines : ℕ) (log : List LLined) → AllByRecursion (λ (l : LLined). GoodLaunch l.rec) log → launch_fault lines log ≡ None
    → length (text_of (written_log log)) ≤ MOST_BYTES
written_short lines log good none = (is_log lines log good none).short

-- Its text is read as it was written.
pub written_clean : (lines : ℕ) (log : List LLined) → AllByRecursion (λ (l : LLined). GoodLaunch l.rec) log → launch_fault lines log ≡ None
    → text_fault (text_of (written_log log)) ≡ None
written_clean lines log good none = text_has_no_fault (written_log log) (written_good lines log good none)
    (le-ltb MOST_BYTES (length (text_of (written_log log))) (written_short lines log good none))

-- It has no more records than an input may have bytes.
pub written_few : (lines : ℕ) (log : List LLined) → AllByRecursion (λ (l : LLined). GoodLaunch l.rec) log → launch_fault lines log ≡ None
    → length (written_log log) ≤ MOST_BYTES
written_few lines log good none = omega (arith, length_text (written_log log), written_short lines log good none)
