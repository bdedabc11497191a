-- Going through the records of a log, and logs whose frame keeps its rules.
use Rattle.std.proofs.Common.{◌≡◌, ℕ, suc, ◌+◌, ◌-◌, ◌≤◌, nat_lt, false, List, [], ◌∷◌, ◌++◌, All, length, find, sum_by, refl, sym, ap, subst, ◌∙◌, arith, length-append, eq-eqb, Option, None, Some, option_map}
use Rattle.std.specs.Option.{option_or}
use Rattle.std.proofs.lemmas.Bool.{le-ltb}
use Rattle.std.proofs.lemmas.List.{map-append}
use Rattle.std.proofs.lemmas.List.Elements.{All-head, All-tail}
use Rattle.std.proofs.lemmas.List.Sums.{fold-append, sum_by_push}
use Rattle.vocabulary.specs.Prelude.{Code, Record, Lined, records_of, lined, lined_from, Tables, with_record, no_tables, tables_of, Fault}
use Rattle.spy_grammar.specs.declared.code.Code.TheVariants as codes
use Rattle.spy_grammar.specs.declared.record.Record.TheVariants.{End}
use Rattle.semantics.specs.Rules.{accesses}
use Rattle.semantics.specs.Faults.{at_line, is_header, is_end, first_with, miscounts, header_fault, ended_fault, count_fault, first_broken, record_in, records_fault, declaration_fault}
use Rattle.worked_logs.specs.WorkedLimits.{framed}
use Rattle.log_laws.proofs.lemmas.Numbered.{records_numbered}

-- ---- Going on to the next record, and stopping at one.

-- The first rule that a record of the log breaks, after these.
abbrev pub broken_by : List Record → List Lined → Record → Option Code
broken_by log earlier r = first_broken (record_in log earlier r)

module _ (log : List Record) (earlier : List Lined) (l : Lined) (rest : List Lined) where
  -- The fault, where the next record breaks this rule or none.
  abbrev fault_with : Option Code → Option Fault
  fault_with broken =
      option_or (option_map (λ code. at_line code l.line) broken) (records_fault log (earlier ++ l ∷ []) rest)

  pub passes : broken_by log earlier l.rec ≡ None
      → records_fault log earlier (l ∷ rest) ≡ records_fault log (earlier ++ l ∷ []) rest
  passes kept = ap fault_with kept

  pub stops : (code : Code) → broken_by log earlier l.rec ≡ Some code
      → records_fault log earlier (l ∷ rest) ≡ Some (at_line code l.line)
  stops code broken = ap fault_with broken

-- ---- What one record more adds.

module _ (earlier : List Lined) (l : Lined) where
  now : records_of (earlier ++ l ∷ []) ≡ records_of earlier ++ l.rec ∷ []
  now = map-append (λ (l : Lined). l.rec) earlier (l ∷ [])

  pub one_more : length (records_of (earlier ++ l ∷ [])) ≡ length (records_of earlier) + 1
  one_more = ap length now ∙ length-append (records_of earlier) (l.rec ∷ [])

  pub declares_more : (t : Tables) → tables_of earlier ≡ t
      → tables_of (earlier ++ l ∷ []) ≡ with_record t l.line l.rec
  declares_more t declared =
      let added = fold-append (λ t (l : Lined). with_record t l.line l.rec) no_tables earlier (l ∷ []) in
      added ∙ ap (λ t. with_record t l.line l.rec) declared

  pub asks_more : (t : Tables)
      → sum_by (accesses t) (records_of (earlier ++ l ∷ []))
      ≡ sum_by (accesses t) (records_of earlier) + accesses t l.rec
  asks_more t = ap (sum_by (accesses t)) now ∙ sum_by_push (accesses t) (records_of earlier) l.rec

-- The record of a line up to the 131,073rd, before which each line has one, is not late.
pub in_time : (earlier : List Lined) (line : ℕ) → length (records_of earlier) + 1 ≡ line → line ≤ 131073
    → nat_lt 131072 (length (records_of earlier)) ≡ false
in_time earlier line count few = le-ltb 131072 (length (records_of earlier)) (omega (arith, count, few))

-- ---- The frame.

-- Neither a header nor an end.
abbrev pub IsInner : Record → Type 0
IsInner r = (is_header r ≡ false) × (is_end r ≡ false)

no_count : (count : ℕ) (r : Record) → is_end r ≡ false → miscounts count r ≡ false
no_count count (End n) e = absurd cc
no_count count _ e = refl

-- In inner records and an end, none is a header, none stands after the end, and the end counts right.
module _ (count lines : ℕ) where
  no_header : (line : ℕ) (rs : List Record) → All IsInner rs
      → find (λ (l : Lined). is_header l.rec) (lined_from line (rs ++ End count ∷ [])) ≡ None
  no_header line [] inner = refl
  no_header line (r ∷ rs) inner =
      rw (All-head IsInner r rs inner).0 (no_header (line + 1) rs (All-tail IsInner r rs inner))

  ended : (line : ℕ) (rs : List Record) → All IsInner rs
      → ended_fault lines (lined_from line (rs ++ End count ∷ [])) ≡ None
  ended line [] inner = refl
  ended line (r ∷ rs) inner =
      rw (All-head IsInner r rs inner).1 (ended (line + 1) rs (All-tail IsInner r rs inner))

  counted : (line : ℕ) (rs : List Record) → All IsInner rs
      → find (λ (l : Lined). miscounts count l.rec) (lined_from line (rs ++ End count ∷ [])) ≡ None
  counted line [] inner = rw (eq-eqb count count refl) refl
  counted line (r ∷ rs) inner =
      rw (no_count count r (All-head IsInner r rs inner).1) (counted (line + 1) rs (All-tail IsInner r rs inner))

length-lined : (line : ℕ) (rs : List Record) → length (lined_from line rs) ≡ length rs
length-lined line [] = refl
length-lined line (r ∷ rs) = ap suc (length-lined (line + 1) rs)

-- So the records tell the fault.
pub by_records : (lines : ℕ) (rs : List Record) → All IsInner rs
    → declaration_fault lines (lined (framed rs)) ≡ records_fault (framed rs) [] (lined (framed rs))
by_records lines rs inner =
    let n = length rs in
    let log = lined (framed rs) in
    let header : header_fault lines log ≡ None = rw (no_header n lines 2 rs inner) refl in
    let end : ended_fault lines log ≡ None = ended n lines 2 rs inner in
    let right : first_with codes.Count (miscounts n) log ≡ None = rw (counted n lines 2 rs inner) refl in
    let n_is : length log - 2 ≡ n = omega (arith, length-lined 1 (framed rs), length-append rs (End n ∷ [])) in
    let count : count_fault log ≡ None =
    subst (λ n. first_with codes.Count (miscounts n) log ≡ None) (sym n_is) right in
    rw (header, end, count) (ap (λ all. records_fault all [] log) (records_numbered 1 (framed rs)))
