-- The version of a log, which its header alone says.
use Rattle.std.proofs.Common.{◌≡◌, ℕ, zero, suc, ◌<◌, ◌==◌, false, inl, inr, List, [], ◌∷◌, take, get_or, find, fold, length, Option, Some, None, option_map, refl, sym, ap, ◌∙◌, arith}
use Rattle.std.proofs.lemmas.Bool.{cases_Bool, false≢true}
use Rattle.std.proofs.lemmas.Option.{none-some}
use Rattle.spy_grammar.specs.declared.code.Code.TheVariants as codes
use Rattle.spy_grammar.specs.declared.record.Record.{Record}
use Rattle.spy_grammar.specs.declared.record.Record.TheVariants.{Header}
use Rattle.spy_grammar.specs.declared.record.Lined.{Lined}
use Rattle.semantics.specs.Tables.{Tables, with_record, no_tables, tables_of}
use Rattle.semantics.specs.Rules.{is_planar}
use Rattle.semantics.specs.Faults.{at_line, header_fault, is_header, opens}

-- No record but a header changes it.
version_stays : (t : Tables) (line : ℕ) (r : Record) → is_header r ≡ false → (with_record t line r).version ≡ t.version
version_stays t line (Header version) e = absurd (false≢true (sym e))
version_stays t line r e = refl

-- There is no header but the first record.
one_header : (l : Lined) (log : List Lined) → header_fault 0 (l ∷ log) ≡ None → find (λ (l : Lined). is_header l.rec) log ≡ None
one_header l log e = elim (cases_Bool (opens l.rec)) [
  | inl first ↦ unfound (find (λ (l : Lined). is_header l.rec) log) (rw first at e)
  | inr other ↦ absurd (none-some _ (sym (rw other at e)))
]
  where
    unfound : (o : Option Lined) → option_map (λ (l : Lined). at_line codes.Header l.line) o ≡ None → o ≡ None
    unfound None e = refl
    unfound (Some l) e = absurd (none-some _ (sym e))

-- So no later record changes the version.
stays_on : (t : Tables) (log : List Lined) → find (λ (l : Lined). is_header l.rec) log ≡ None → (i : ℕ)
    → (fold (λ (u : Tables) (l : Lined). with_record u l.line l.rec) t (take i log)).version ≡ t.version
stays_on t log none zero = refl
stays_on t [] none (suc i) = refl
stays_on t (l ∷ log) none (suc i) = elim (cases_Bool (is_header l.rec)) [
  | inl is ↦ absurd (none-some l (sym (rw is at none)))
  | inr other ↦ stays_on (with_record t l.line l.rec) log (rw other at none) i ∙ version_stays t l.line l.rec other
]

-- From its header on, a log is of the version that this says.
pub version_at : (l : Lined) (log : List Lined) → header_fault 0 (l ∷ log) ≡ None → (i : ℕ)
    → (tables_of (take (suc i) (l ∷ log))).version ≡ (with_record no_tables l.line l.rec).version
version_at l log e i = stays_on (with_record no_tables l.line l.rec) log (one_header l log e) i

not_found : (log : List Lined) → find (λ (l : Lined). is_header l.rec) log ≡ None → (i : ℕ) (l : Lined) → i < length log
    → is_header (get_or log i l).rec ≡ false
not_found [] none i l lt = absurd (omega (arith, lt))
not_found (x ∷ log) none zero l lt = elim (cases_Bool (is_header x.rec)) [
  | inl is ↦ absurd (none-some x (sym (rw is at none)))
  | inr other ↦ other
]
not_found (x ∷ log) none (suc i) l lt = elim (cases_Bool (is_header x.rec)) [
  | inl is ↦ absurd (none-some x (sym (rw is at none)))
  | inr other ↦ not_found log (rw other at none) i l (omega (arith, lt))
]

-- A log that is not of the second version after a record is not before it.
pub flat_before : (log : List Lined) → header_fault 0 log ≡ None → (i : ℕ) (l : Lined) → i < length log → l ≡ get_or log i l
    → (line : ℕ) → is_planar (with_record (tables_of (take i log)) line l.rec) ≡ false → is_planar (tables_of (take i log)) ≡ false
flat_before log e zero l lt is line flat = refl
flat_before [] e (suc i) l lt is line flat = absurd (omega (arith, lt))
flat_before (x ∷ log) e (suc i) l lt is line flat =
    let other : is_header l.rec ≡ false =
    ap (λ (y : Lined). is_header y.rec) is ∙ not_found log (one_header x log e) i l (omega (arith, lt)) in
    ap (λ v. v == 2) (sym (version_stays (tables_of (take (suc i) (x ∷ log))) line l.rec other)) ∙ flat
