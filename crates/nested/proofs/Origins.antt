-- What the parts of a nested log tell of the whole: of its plain records, and of the others.
use Rattle.std.proofs.Common.{◌≡◌, ℕ, List, All, None, Result, Ok, Err, OnOk, sym, ap, ◌∙◌, subst}
use Rattle.vocabulary.specs.Prelude.{AreLines, Good, Tables, tables_of, no_tables}
use Rattle.spy_grammar.specs.Nested.{GoodNested}
use Rattle.spy_grammar.specs.declared.record.Lined.{Lined}
use Rattle.spy_grammar.specs.declared.nested.NLined.{NLined}
use Rattle.semantics.specs.Faults.{at_line, declaration_fault}
use Rattle.semantics.specs.Nesting.{AreNestedLines, Nesting, no_nesting, nested_fault, nested_tables, nesting_of, plain_log, shown_unlicensed}
use Rattle.nest_rules.specs.declared.pending.Pending.{Pending}
use Rattle.nest_rules.specs.Pending.{pending_from, pending_fault}
use Rattle.nest_rules.proofs.lemmas.Judging.{nesting_is, pending_good, plain_good}
use Rattle.nest_rules.proofs.lemmas.PlainLines.{plain_lines}
use Rattle.licences.specs.Claims.{Claimed}
use Rattle.nested.specs.declared.nest_end.NestEnd.{NestEnd}
use Rattle.nested.specs.declared.nest_end.NestEnd.TheVariants as ends
use Rattle.nested.specs.Nested.{AreFound, IsEnd, IsNestEnd, IsOrigin, IsLicensed, IsPlainEnd, Nested, all_nested, nested_by, nested_with}
use Rattle.nested.proofs.Ending.{fault_first, fault_is, licensed_by}

-- What a log with its groups keeps.
pub licensed_found : (t u : Tables) (ps : List Pending) (n : Nesting) (claims : List (List Claimed)) → u ≡ t → IsOrigin t ps
    → AreFound u ps n claims → IsLicensed t n
licensed_found t u ps n claims same from f =
    let found = subst (λ (w : Tables). AreFound w ps n claims) same f in
    licensed_by t ps n from found.groups.nesting found.groups.faultless found.licensed

pub plain_told : (lines : ℕ) (log : List NLined) (plain : List Lined) → plain ≡ plain_log log → All (λ (l : NLined). GoodNested l.rec) log
    → AreNestedLines lines log
    → (All (λ (l : Lined). Good l.rec) plain) × AreLines lines plain
plain_told lines log plain is good ascend = (
  subst (λ (ls : List Lined). All (λ (l : Lined). Good l.rec) ls) (sym is) (plain_good log good),
  subst (λ (ls : List Lined). AreLines lines ls) (sym is) (plain_lines lines log ascend),
)

pub good_told : (log : List NLined) (ps : List Pending) → ps ≡ pending_from no_tables log → All (λ (l : NLined). GoodNested l.rec) log
    → All (λ (p : Pending). GoodNested p.rec) ps
good_told log ps is good = subst (λ (qs : List Pending). All (λ (p : Pending). GoodNested p.rec) qs) (sym is) (pending_good log good)

-- These tables and records are those of this nested log, whose plain records have no fault.
pub record AreOf (lines : ℕ) (log : List NLined) (t : Tables) (ps : List Pending) : Type 0 where
  pub tables : t ≡ nested_tables log
  pub pending : ps ≡ pending_from no_tables log
  pub plain : declaration_fault lines (plain_log log) ≡ None

pub parts_told : (lines : ℕ) (log : List NLined) (plain : List Lined) (ps : List Pending) (t : Tables) → plain ≡ plain_log log
    → ps ≡ pending_from no_tables log
    → t ≡ tables_of plain → declaration_fault lines plain ≡ None → AreOf lines log t ps
parts_told lines log plain ps t is others tables none = record {
  tables = tables ∙ ap tables_of is;
  pending = others;
  plain = ap (declaration_fault lines) (sym is) ∙ none;
}

pub origin_told : (lines : ℕ) (log : List NLined) (t : Tables) (ps : List Pending) → AreOf lines log t ps → IsOrigin t ps
origin_told lines log t ps are = record { lines = lines; log = log; tables = are.tables; pending = are.pending; plain = are.plain }

nesting_same : (lines : ℕ) (log : List NLined) (t : Tables) (ps : List Pending) → AreOf lines log t ps → all_nested ps ≡ nesting_of log
nesting_same lines log t ps are = ap all_nested are.pending ∙ sym (nesting_is log)

pub seen_told : (lines : ℕ) (log : List NLined) (t : Tables) (ps : List Pending) (nest : Nested) → AreOf lines log t ps
    → nest ≡ nested_with t ps → nest ≡ nested_by log
seen_told lines log t ps nest are is =
    is ∙ ap (λ (u : Tables). nested_with u ps) are.tables
    ∙ ap (λ (n : Nesting). record { tables = nested_tables log; nesting = n }) (nesting_same lines log t ps are)

fault_same : (lines : ℕ) (log : List NLined) (t : Tables) (ps : List Pending) → AreOf lines log t ps
    → nested_fault lines log ≡ pending_fault t no_nesting ps
fault_same lines log t ps are =
    fault_is lines log are.plain
    ∙ ap (λ (qs : List Pending). pending_fault (nested_tables log) no_nesting qs) (sym are.pending)
    ∙ ap (λ (u : Tables). pending_fault u no_nesting ps) (sym are.tables)

shown_same : (lines : ℕ) (log : List NLined) (t : Tables) (ps : List Pending) → AreOf lines log t ps
    → shown_unlicensed (nested_tables log) (nesting_of log) ≡ shown_unlicensed t (all_nested ps)
shown_same lines log t ps are =
    ap (λ (u : Tables). shown_unlicensed u (nesting_of log)) (sym are.tables)
    ∙ ap (shown_unlicensed t) (sym (nesting_same lines log t ps are))

pub faultless_told : (lines : ℕ) (log : List NLined) (t : Tables) (ps : List Pending) → AreOf lines log t ps
    → pending_fault t no_nesting ps ≡ None → nested_fault lines log ≡ None
faultless_told lines log t ps are none = fault_same lines log t ps are ∙ none

pub licensed_told : (lines : ℕ) (log : List NLined) (t : Tables) (ps : List Pending) → AreOf lines log t ps
    → shown_unlicensed t (all_nested ps) ≡ None
    → shown_unlicensed (nested_tables log) (nesting_of log) ≡ None
licensed_told lines log t ps are none = shown_same lines log t ps are ∙ none

pub end_told : (lines : ℕ) (log : List NLined) (t : Tables) (ps : List Pending) (e : NestEnd) → AreOf lines log t ps → IsEnd t ps e
    → IsNestEnd lines log e
end_told lines log t ps (ends.Fault line code) are h = fault_same lines log t ps are ∙ h
end_told lines log t ps (ends.Unlicensed u) are h = (fault_same lines log t ps are ∙ h.0, shown_same lines log t ps are ∙ h.1)
end_told lines log t ps ends.Memory are h = h

pub plain_end_told : (lines : ℕ) (log : List NLined) (plain : List Lined) (e : NestEnd) → plain ≡ plain_log log → IsPlainEnd lines plain e
    → IsNestEnd lines log e
plain_end_told lines log plain (ends.Fault line code) is h =
    fault_first lines log (at_line code line) (ap (declaration_fault lines) (sym is) ∙ h)
plain_end_told lines log plain (ends.Unlicensed u) is h = absurd h
plain_end_told lines log plain ends.Memory is h = h

-- What tells a thing of an answer tells what follows from it.
pub on_ok_then : {T E A B : Type 0} (r : Result T E) → (A → B) → OnOk r A → OnOk r B
on_ok_then (Ok x) so h = so h
on_ok_then (Err e) so h = h
