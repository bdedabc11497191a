-- The limit on records: a log of operators alone, whatever its length.
use Rattle.std.proofs.Common.{◌≡◌, ℕ, zero, suc, ◌+◌, ◌≤◌, ◌<◌, ◌==◌, false, List, [], ◌∷◌, ◌++◌, All, map, fold, length, get_or, sum_by, refl, sym, ap, ◌∙◌, arith, None, Some, append-nil, append_assoc, inl, inr}
use Rattle.std.specs.List.{range_with_len}
use Rattle.std.proofs.Math.Nat.{eq-or-lt_of_le}
use Rattle.std.proofs.lemmas.Bool.{lt-ltb, ne_eqb}
use Rattle.std.proofs.lemmas.List.Elements.{All-nil, All-push, All-weaker, All-map}
use Rattle.std.proofs.lemmas.List.Folds.{list_any_none}
use Rattle.spy_grammar.specs.declared.code.Code.TheVariants as codes
use Rattle.vocabulary.specs.Prelude.{Record, Lined, records_of, lined, lined_from, Tables, with_record, no_tables, tables_of, is_in}
use Rattle.spy_grammar.specs.declared.record.Record.TheVariants.{Header, Redop, End}
use Rattle.semantics.specs.Rules.{accesses}
use Rattle.semantics.specs.declared.command.Command.TheVariants.{Check}
use Rattle.semantics.specs.Faults.{at_line, records_fault, declaration_fault, log_fault}
use Rattle.semantics.specs.Computed.{logs_computed}
use Rattle.worked_logs.specs.WorkedLimits.{framed, of_records}
use Rattle.worked_logs.proofs.Frames.{IsInner, broken_by, passes, stops, one_more, declares_more, asks_more, in_time, by_records}

-- The records that declare these operators, and what they declare.
abbrev redops : List ℕ → List Record
redops ids = map (λ id. Redop id) ids

abbrev operators : List ℕ → Tables
operators ids = record no_tables { version = 1; operators = ids }

-- The records before a line declare these operators, whose ids are below the next one. They ask for no access.
record DeclareOperators (line next : ℕ) (ids : List ℕ) (earlier : List Lined) : Type 0 where
  count : length (records_of earlier) + 1 ≡ line
  tables : tables_of earlier ≡ operators ids
  below : All (λ id. id < next) ids
  idle : (t : Tables) → sum_by (accesses t) (records_of earlier) ≡ 0

-- ---- One record.

abbrev at : ℕ → ℕ → Lined
at line id = record { line = line; rec = Redop id }

module _ (line next : ℕ) (ids : List ℕ) (earlier : List Lined) (before : DeclareOperators line next ids earlier) where
  after : DeclareOperators (line + 1) (next + 1) (ids ++ next ∷ []) (earlier ++ at line next ∷ [])
  after =
      let l = at line next in
      let count = before.count in
      let longer = one_more earlier l in
      let risen = All-weaker (λ id. id < next) (λ id. id < next + 1) (λ id lt. omega (arith, lt)) ids before.below in
      record {
        count = omega (arith, count, longer);
        tables = declares_more earlier l (operators ids) before.tables;
        below = All-push (λ id. id < next + 1) ids next risen (omega arith);
        idle = λ t. asks_more earlier l t ∙ ap (λ n. n + 0) (before.idle t);
      }

  new : is_in ids next ≡ false
  new =
      let other : All (λ id. (id == next) ≡ false) ids =
      λ k d lt. let low = before.below k d lt in ne_eqb (get_or ids k d) next (λ e. omega (arith, low, e)) in
      list_any_none (λ id. id == next) ids other

  module _ (log : List Record) where
    kept : line ≤ 131073 → broken_by log earlier (Redop next) ≡ None
    kept few = rw (before.tables, in_time earlier line before.count few, new, before.idle (operators ids)) refl

    late : line ≡ 131074 → broken_by log earlier (Redop next) ≡ Some codes.TooManyRecords
    late here =
        let count = before.count in
        rw (lt-ltb 131072 (length (records_of earlier)) (omega (arith, count, here))) refl

    at_end : (n : ℕ) → broken_by log earlier (End n) ≡ None
    at_end n = rw (before.tables, before.idle (operators ids)) refl

-- ---- One record after the other.

-- From a line on so many operators, and an end.
abbrev rest : ℕ → ℕ → ℕ → ℕ → List Lined
rest n line next more = lined_from line (redops (range_with_len next more) ++ End n ∷ [])

module _ (log : List Record) (n : ℕ) where
  all_kept : (line next more : ℕ) (ids : List ℕ) (earlier : List Lined) → DeclareOperators line next ids earlier
      → line + more ≤ 131074 → records_fault log earlier (rest n line next more) ≡ None
  all_kept line next zero ids earlier before few =
      passes log earlier (record { line = line; rec = End n }) [] (at_end line next ids earlier before log n)
  all_kept line next (suc more) ids earlier before few =
      let l = at line next in
      let then = after line next ids earlier before in
      let unbroken = kept line next ids earlier before log (omega (arith, few)) in
      passes log earlier l (rest n (line + 1) (next + 1) more) unbroken
      ∙ all_kept (line + 1) (next + 1) more (ids ++ next ∷ []) (earlier ++ l ∷ []) then (omega (arith, few))

  one_late : (line next more : ℕ) (ids : List ℕ) (earlier : List Lined) → DeclareOperators line next ids earlier
      → line ≤ 131074 → 131074 < line + more
      → records_fault log earlier (rest n line next more) ≡ Some (at_line codes.TooManyRecords 131074)
  one_late line next zero ids earlier before from many = absurd (omega (arith, from, many))
  one_late line next (suc more) ids earlier before from many =
      let l = at line next in
      let later = rest n (line + 1) (next + 1) more in
      elim (eq-or-lt_of_le {n = line} {m = 131074} from) [
        | inl here ↦
            stops log earlier l later codes.TooManyRecords (late line next ids earlier before log here)
            ∙ ap (λ line. Some (at_line codes.TooManyRecords line)) here
        | inr lt ↦
            let then = after line next ids earlier before in
            let tail = one_late (line + 1) (next + 1) more (ids ++ next ∷ []) (earlier ++ l ∷ []) then in
            passes log earlier l later (kept line next ids earlier before log (omega (arith, lt)))
            ∙ tail (omega (arith, lt)) (omega (arith, many))
      ]

-- ---- The whole log.

-- What the whole log declares.
all_tables : (line n : ℕ) (ids more : List ℕ)
    → fold (λ t (l : Lined). with_record t l.line l.rec) (operators ids) (lined_from line (redops more ++ End n ∷ []))
    ≡ operators (ids ++ more)
all_tables line n ids [] = ap operators (sym (append-nil ids))
all_tables line n ids (id ∷ more) =
    all_tables (line + 1) n (ids ++ id ∷ []) more ∙ ap operators (append_assoc ids (id ∷ []) more)

abbrev header : Lined
header = record { line = 1; rec = Header 1 }

after_header : DeclareOperators 2 1 [] (header ∷ [])
after_header = record { count = refl; tables = refl; below = All-nil (λ id. id < 1); idle = λ t. refl }

module _ (lines n : ℕ) where
  abbrev ids : List ℕ
  ids = range_with_len 1 n

  abbrev all : List Record
  all = redops ids

  -- The frame keeps its rules, and so does the header: the records after it tell the fault.
  told : declaration_fault lines (lined (framed all))
      ≡ records_fault (framed all) (header ∷ []) (rest (length all) 2 1 n)
  told =
      by_records lines all (All-map IsInner (λ id. Redop id) ids (λ k d lt. (refl, refl)))
      ∙ passes (framed all) [] header (rest (length all) 2 1 n) refl

  pub records_kept : n ≤ 131072 → log_fault Check lines (lined (of_records n)) ≡ None
  unfolding logs_computed of_records
  records_kept few =
      let all_pass = all_kept (framed all) (length all) 2 1 n [] (header ∷ []) after_header (omega (arith, few)) in
      let tables : tables_of (lined (framed all)) ≡ operators ids = all_tables 2 (length all) [] ids in
      rw (told ∙ all_pass, tables) refl

  pub records_broken : 131072 < n
      → log_fault Check lines (lined (of_records n)) ≡ Some (at_line codes.TooManyRecords 131074)
  unfolding logs_computed of_records
  records_broken many =
      let late = one_late (framed all) (length all) 2 1 n [] (header ∷ []) after_header in
      rw (told ∙ late (omega arith) (omega (arith, many))) refl
