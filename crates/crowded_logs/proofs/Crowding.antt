-- What is kept of a crowded log tells its fault.
use Rattle.std.proofs.Common.{◌≡◌, ℕ, ◌+◌, ◌≤◌, ◌<◌, nat_lt, arith, Bool, true, false, ◌||◌, cond, List, [], ◌∷◌, ◌++◌, length, Option, Some, None, option_map, is_some, refl, sym, ap, ap₂, ◌∙◌, inl, inr, append_assoc}
use Rattle.std.specs.List.{list_any}
use Rattle.std.specs.Option.{option_or}
use Rattle.std.proofs.lemmas.Bool.{cases_Bool, lt-ltb, ltb-false, ltb-true, or_parts, or_right}
use Rattle.std.proofs.lemmas.List.{length-append, map-append}
use Rattle.std.proofs.lemmas.List.Folds.{list_any-append}
use Rattle.vocabulary.specs.Prelude.{Code, Record, Lined, Fault, records_of}
use Rattle.spy_grammar.specs.declared.code.Code.TheVariants as codes
use Rattle.spy_grammar.specs.declared.record.Record.TheVariants.{End}
use Rattle.semantics.specs.declared.limits.TheConstants.{MOST_RECORDS}
use Rattle.semantics.specs.Rules.{is_late}
use Rattle.semantics.specs.Faults.{at_line, ended_fault, first_broken, first_with, header_fault, is_end, is_header, opens, record_in, records_fault}
use Rattle.crowded_logs.specs.Crowded.{Answer, IsKeptOf}
use Rattle.crowded_logs.proofs.Tests.{any_none, none_any, or_left}
use Rattle.crowded_logs.proofs.Answering.{broken_same}

-- ---- the record that is one too many

-- Whether some record is one too many, after so many.
abbrev has_late : ℕ → List Lined → Bool
has_late before [] = false
has_late before (l ∷ rest) = is_late before l.rec || has_late (before + 1) rest

late_if : (before : ℕ) (r : Record) → is_end r ≡ false → MOST_RECORDS < before → is_late before r ≡ true
late_if before (End n) other many = absurd cc
late_if before r other many = lt-ltb MOST_RECORDS before many

nothing_left : (log : List Lined) → first_with codes.Ended (λ r. true) log ≡ None → log ≡ []
nothing_left [] e = refl
nothing_left (l ∷ log) e = absurd cc

-- In a log that ends by its only end there is one, if there are so many records and one more.
late_in : (lines before : ℕ) (first later : List Lined) → ended_fault lines (first ++ later) ≡ None → before ≤ MOST_RECORDS + 1
    → MOST_RECORDS + 2 < before + length first → has_late before first ≡ true
late_in lines before [] later clean few many = absurd (omega (arith, few, many))
late_in lines before (l ∷ first) later clean few many = elim (cases_Bool (is_end l.rec)) [
  | inl here ↦
      let left = nothing_left (first ++ later)
      (sym (ap (λ b. cond b (first_with codes.Ended (λ r. true) (first ++ later)) (ended_fault lines (first ++ later))) here) ∙ clean) in
      let none : length first + length later ≡ 0 = sym (length-append first later) ∙ ap length left in
      absurd (omega (arith, few, many, none))
  | inr other ↦
      let behind = sym (ap (λ b. cond b (first_with codes.Ended (λ r. true) (first ++ later)) (ended_fault lines (first ++ later))) other) ∙ clean in
      elim (cases_Bool (nat_lt before (MOST_RECORDS + 1))) [
        | inl more ↦ or_right (is_late before l.rec) (has_late (before + 1) first)
            (late_in lines (before + 1) first later behind (omega (arith, ltb-true before (MOST_RECORDS + 1) more)) (omega (arith, many)))
        | inr enough ↦ or_left (is_late before l.rec) (has_late (before + 1) first) (late_if before l.rec other (omega (arith, ltb-false before (MOST_RECORDS + 1) enough)))
      ]
]

late_fault : (log : List Record) (earlier : List Lined) (l : Lined) (rest : List Lined) → is_late (length (records_of earlier)) l.rec ≡ true
    → records_fault log earlier (l ∷ rest) ≡ Some (at_line codes.TooManyRecords l.line)
late_fault log earlier l rest late = rw late refl

-- ---- the walk

counted_next : (earlier : List Lined) (l : Lined) → length (records_of (earlier ++ l ∷ [])) ≡ length (records_of earlier) + 1
counted_next earlier l = ap length (map-append (λ (k : Lined). k.rec) earlier (l ∷ [])) ∙ length-append (records_of earlier) (l.rec ∷ [])

some_right : {X : Type 0} (o p : Option X) → is_some p ≡ true → is_some (option_or o p) ≡ true
some_right None p e = e
some_right (Some x) p e = refl

-- A fault is found at the record that is one too many, or before it.
found : (log : List Record) (earlier first later : List Lined) → has_late (length (records_of earlier)) first ≡ true
    → is_some (records_fault log earlier (first ++ later)) ≡ true
found log earlier [] later late = absurd cc
found log earlier (l ∷ first) later late = elim (cases_Bool (is_late (length (records_of earlier)) l.rec)) [
  | inl here ↦ ap is_some (late_fault log earlier l (first ++ later) here)
  | inr other ↦
      let next = sym (ap (λ b. b || has_late (length (records_of earlier) + 1) first) other) ∙ late in
      some_right (option_map (λ code. at_line code l.line) (first_broken (record_in log earlier l.rec))) _
      (found log (earlier ++ l ∷ []) first later (ap (λ n. has_late n first) (counted_next earlier l) ∙ next))
]

module _ (first later kept : List Lined) (a : Answer (records_of first) (records_of later) (records_of kept)) where
  walk_same : (earlier rest : List Lined) → first ≡ earlier ++ rest → has_late (length (records_of earlier)) rest ≡ true
      → records_fault (records_of (first ++ later)) earlier (rest ++ later) ≡ records_fault (records_of (first ++ kept)) earlier (rest ++ kept)
  walk_same earlier [] split late = absurd cc
  walk_same earlier (l ∷ rest) split late = elim (cases_Bool (is_late (length (records_of earlier)) l.rec)) [
    | inl here ↦
        late_fault (records_of (first ++ later)) earlier l (rest ++ later) here
        ∙ sym (late_fault (records_of (first ++ kept)) earlier l (rest ++ kept) here)
    | inr other ↦
        let next = sym (ap (λ b. b || has_late (length (records_of earlier) + 1) rest) other) ∙ late in
        ap₂ (λ (o : Option Code) (p : Option Fault). option_or (option_map (λ code. at_line code l.line) o) p)
        (broken_same first later kept a earlier rest l split)
        (walk_same (earlier ++ l ∷ []) rest (split ∙ sym (append_assoc earlier (l ∷ []) rest))
        (ap (λ n. has_late n rest) (counted_next earlier l) ∙ next))
  ]

-- ---- what is kept of a crowded log

late_first : (lines : ℕ) (log kept : List Lined) (k : IsKeptOf log kept) → ended_fault lines log ≡ None → has_late 0 k.first ≡ true
late_first lines log kept k clean =
    late_in lines 0 k.first k.later (sym (ap (ended_fault lines) k.log_is) ∙ clean) (omega arith) (omega (arith, k.many))

pub fault_kept : (lines : ℕ) (log kept : List Lined) → IsKeptOf log kept → ended_fault lines log ≡ None
    → records_fault (records_of log) [] log ≡ records_fault (records_of kept) [] kept
fault_kept lines log kept k clean =
    ap (λ ls. records_fault (records_of ls) [] ls) k.log_is
    ∙ walk_same k.first k.later k.kept_later k.answer [] k.first refl (late_first lines log kept k clean)
    ∙ sym (ap (λ ls. records_fault (records_of ls) [] ls) k.kept_is)

pub some_kept : (lines : ℕ) (log kept : List Lined) → IsKeptOf log kept → ended_fault lines log ≡ None
    → records_fault (records_of kept) [] kept ≡ None → ⊥
some_kept lines log kept k clean none =
    let some = ap (λ ls. is_some (records_fault (records_of ls) [] ls)) k.kept_is
    ∙ found (records_of (k.first ++ k.kept_later)) [] k.first k.kept_later (late_first lines log kept k clean) in
    let no : true ≡ false = sym some ∙ ap is_some none in
    cc

-- No later record of a log with a header is a header, so none that is kept is one.
header_of : (lines : ℕ) (first later kept : List Lined) → 1 ≤ length first
    → (list_any is_header (records_of kept) ≡ true → list_any is_header (records_of later) ≡ true)
    → header_fault lines (first ++ later) ≡ None → header_fault 0 (first ++ kept) ≡ None
header_of lines [] later kept some part clean = absurd (omega (arith, some))
header_of lines (l ∷ rest) later kept some part clean = elim (cases_Bool (opens l.rec)) [
  | inl opening ↦
      let behind = none_any codes.Header is_header (rest ++ later)
      (sym (ap (λ b. cond b (first_with codes.Header is_header (rest ++ later)) (Some (at_line codes.Header l.line))) opening) ∙ clean) in
      let parts = or_parts (list_any is_header (records_of rest)) (list_any is_header (records_of later))
      (sym (ap (list_any is_header) (map-append (λ (k : Lined). k.rec) rest later) ∙ list_any-append is_header (records_of rest) (records_of later)) ∙ behind) in
      let none = ap (list_any is_header) (map-append (λ (k : Lined). k.rec) rest kept) ∙ list_any-append is_header (records_of rest) (records_of kept)
      ∙ ap₂ (λ (a b : Bool). a || b) parts.0 (none_kept (list_any is_header (records_of kept)) (list_any is_header (records_of later)) part parts.1) in
      ap (λ b. cond b (first_with codes.Header is_header (rest ++ kept)) (Some (at_line codes.Header l.line))) opening
      ∙ any_none codes.Header is_header (rest ++ kept) none
  | inr other ↦
      let fault : Some (at_line codes.Header l.line) ≡ None =
      sym (ap (λ b. cond b (first_with codes.Header is_header (rest ++ later)) (Some (at_line codes.Header l.line))) other) ∙ clean in
      absurd cc
]
  where
    none_kept : (k a : Bool) → (k ≡ true → a ≡ true) → a ≡ false → k ≡ false
    none_kept true a part e = absurd (let yes = part refl in cc)
    none_kept false a part e = refl

pub header_kept : (lines : ℕ) (log kept : List Lined) → IsKeptOf log kept → header_fault lines log ≡ None → header_fault 0 kept ≡ None
header_kept lines log kept k clean =
    ap (header_fault 0) k.kept_is
    ∙ header_of lines k.first k.later k.kept_later (omega (arith, k.many)) (k.answer.part is_header) (sym (ap (header_fault lines) k.log_is) ∙ clean)
