-- The reads of a log are within their limit, and counted requirement by requirement.
use Rattle.std.proofs.Common.{◌≡◌, ℕ, ◌+◌, ◌≤◌, nat_lt, inl, inr, true, List, [], ◌∷◌, ◌++◌, filter, refl, sym, ap, ◌∙◌, subst, arith, sum_by, None, append_assoc}
use Rattle.std.proofs.lemmas.Bool.{cases_Bool, ltb-false}
use Rattle.std.proofs.lemmas.List.Sums.{fold-append, sum_by-cons}
use Rattle.spy_grammar.specs.declared.code.Code.TheVariants as codes
use Rattle.spy_grammar.specs.declared.record.Record.TheVariants as records
use Rattle.vocabulary.specs.Prelude.{may_read, Record, Lined, Req, records_of, Tables, with_record, no_tables, tables_of}
use Rattle.semantics.specs.Rules.{size_of, has_many_reads, read_count}
use Rattle.semantics.specs.Faults.{is_end, header_fault, ended_fault, records_fault}
use Rattle.logs.specs.Faultless.{AreDeclared}
use Rattle.list_lemmas.proofs.lemmas.Contained.{both_none}
use Rattle.log_laws.proofs.lemmas.Admitted.{Unbroken, rule_kept, unbroken, no_broken_rule}
use Rattle.replay.specs.Counts.{reads_in}

-- ---- the limit, at the end of the log

abbrev Few : List Lined → Type 0
Few log = read_count (tables_of log) ≤ 18446744073709551615

at_end : (log : List Record) (earlier : List Lined) (l : Lined) → Unbroken log earlier l.rec → is_end l.rec ≡ true
    → Few (earlier ++ l ∷ [])
at_end log earlier l u is =
    let t = tables_of earlier in
    let last = ends_with t l.line l.rec is in
    let same : tables_of (earlier ++ l ∷ []) ≡ t =
    fold-append (λ t (l : Lined). with_record t l.line l.rec) no_tables earlier (l ∷ []) ∙ last.0 in
    subst (λ (u : Tables). read_count u ≤ 18446744073709551615) (sym same)
    (ltb-false 18446744073709551615 (read_count t) (sym last.1 ∙ rule_kept codes.TooManyReads refl u))
  where
    ends_with : (t : Tables) (line : ℕ) (r : Record) → is_end r ≡ true
        → (with_record t line r ≡ t) × (has_many_reads t r ≡ nat_lt 18446744073709551615 (read_count t))
    ends_with t line (records.End n) e = (refl, refl)
    ends_with t line _ e = absurd cc

to_end : (log : List Record) (lines : ℕ) (earlier rest : List Lined) → records_fault log earlier rest ≡ None → ended_fault lines rest ≡ None
    → Few (earlier ++ rest)
to_end log lines earlier [] e ended = absurd cc
to_end log lines earlier (l ∷ []) e ended = elim (cases_Bool (is_end l.rec)) [
  | inl is ↦ at_end log earlier l (unbroken log earlier l [] e).0 is
  | inr other ↦ absurd (let bad = rw other at ended in cc)
]
to_end log lines earlier (l ∷ m ∷ rest) e ended = elim (cases_Bool (is_end l.rec)) [
  | inl is ↦ absurd (let bad = rw is at ended in cc)
  | inr other ↦
      subst Few (append_assoc earlier (l ∷ []) (m ∷ rest))
      (to_end log lines (earlier ++ l ∷ []) (m ∷ rest) (unbroken log earlier l (m ∷ rest) e).1 (rw other at ended))
]

pub few_reads : (t : Tables) → AreDeclared t → read_count t ≤ 18446744073709551615
few_reads t d = subst (λ (u : Tables). read_count u ≤ 18446744073709551615) (sym d.tables)
    (let framed = both_none (header_fault d.lines d.log) _ d.faultless in
    let ended = both_none (ended_fault d.lines d.log) _ framed.1 in
    to_end (records_of d.log) d.lines [] d.log (no_broken_rule d.lines d.log d.faultless) ended.0)

-- ---- requirement by requirement

pub reads_counted : (t : Tables) (rs : List Req)
    → sum_by (λ (r : Req). size_of t r.space r.fields) (filter (λ (r : Req). may_read r.access) rs) ≡ reads_in t rs
reads_counted t [] = refl
reads_counted t (r ∷ rs) = elim (cases_Bool (may_read r.access)) [
  | inl reads ↦
      rw reads (sum_by-cons (λ (r : Req). size_of t r.space r.fields) r (filter (λ (r : Req). may_read r.access) rs)
      ∙ ap (λ n. size_of t r.space r.fields + n) (reads_counted t rs))
  | inr other ↦ rw other (let rest = reads_counted t rs in omega (arith, rest))
]
