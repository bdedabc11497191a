-- What holds along a nested log of which no fault is shown.
use Rattle.std.proofs.Common.{◌≡◌, ℕ, true, false, List, [], ◌∷◌, ◌++◌, refl, sym, ap, ◌∙◌, subst, None, fold, append_assoc, append-nil, Contains, arith}
use Rattle.std.specs.List.{list_all}
use Rattle.std.proofs.lemmas.Bool.{and_parts, not-false}
use Rattle.std.proofs.lemmas.List.Elements.{filter_map-append}
use Rattle.std.proofs.lemmas.List.Sums.{fold-append}
use Rattle.spy_grammar.specs.declared.code.Code.TheVariants as codes
use Rattle.spy_grammar.specs.declared.nested.NRecord.{NRecord}
use Rattle.spy_grammar.specs.declared.nested.NRecord.TheVariants as records
use Rattle.spy_grammar.specs.declared.nested.NLined.{NLined}
use Rattle.vocabulary.specs.Prelude.{Code, Lined, Tables, with_record, no_tables, tables_of}
use Rattle.semantics.specs.Rules.{is_declared}
use Rattle.semantics.specs.Faults.{declaration_fault}
use Rattle.semantics.specs.Nesting.{Nesting, no_nesting, with_nested, nesting_of, plain_line, plain_log, nested_tables, is_group, named_groups, named_things, repeats_group, nested_rules, breaks_nested, nested_in, groups_fault, nested_fault}
use Rattle.list_lemmas.proofs.lemmas.Contained.{both_none, unmapped_none, none_found}

-- The tables with what one line more declares, if its record is plain.
abbrev pub with_plain : Tables → NLined → Tables
with_plain t l = elim l.rec [
  | records.Plain r ↦ with_record t l.line r
  | _ ↦ t
]

-- What the rules on groups say of a record that keeps them.
pub record KeepsGroups (t : Tables) (n : Nesting) (r : NRecord) : Type 0 where
  pub new : repeats_group n r ≡ false
  pub groups : list_all (is_group n) (named_groups r) ≡ true
  pub things : list_all (is_declared t) (named_things r) ≡ true

rule_kept : (whole : Tables) (earlier : List NLined) (l : NLined) (rest : List NLined) → groups_fault whole earlier (l ∷ rest) ≡ None
    → (code : Code) → Contains nested_rules code
    → breaks_nested (nested_in whole earlier l.rec) code ≡ false
rule_kept whole earlier l rest e code m =
    none_found (breaks_nested (nested_in whole earlier l.rec)) nested_rules code
    (unmapped_none _ _ (both_none _ (groups_fault whole (earlier ++ l ∷ []) rest) e).0) m

keeps : (whole : Tables) (earlier : List NLined) (l : NLined) (rest : List NLined) → groups_fault whole earlier (l ∷ rest) ≡ None
    → KeepsGroups (nested_tables earlier) (nesting_of earlier) l.rec
keeps whole earlier l rest e =
    let known = and_parts (list_all (is_group (nesting_of earlier)) (named_groups l.rec))
    (list_all (is_declared (nested_tables earlier)) (named_things l.rec))
    (not-false _ (rule_kept whole earlier l rest e codes.UnknownId (2, omega arith, refl))) in
    record { new = rule_kept whole earlier l rest e codes.RepeatedId (1, omega arith, refl); groups = known.0; things = known.1 }

pub nested_more : (earlier : List NLined) (l : NLined) → nesting_of (earlier ++ l ∷ []) ≡ with_nested (nesting_of earlier) l.rec
nested_more earlier l = fold-append (λ n (l : NLined). with_nested n l.rec) no_nesting earlier (l ∷ [])

pub tables_more : (earlier : List NLined) (l : NLined) → nested_tables (earlier ++ l ∷ []) ≡ with_plain (nested_tables earlier) l
tables_more earlier l =
    ap tables_of (filter_map-append plain_line earlier (l ∷ []))
    ∙ fold-append (λ t (l : Lined). with_record t l.line l.rec) no_tables (plain_log earlier) (plain_log (l ∷ []))
    ∙ one (nested_tables earlier) l.line l.rec
  where
    one : (t : Tables) (line : ℕ) (r : NRecord) → fold (λ t (l : Lined). with_record t l.line l.rec) t
        (plain_log (record { line = line; rec = r } ∷ [])) ≡ with_plain t (record { line = line; rec = r })
    one t line (records.Plain r) = refl
    one t line _ = refl

-- What holds of nothing, and stays with each record that keeps the rules on groups, holds of the whole log.
walked : (P : Tables → Nesting → Type 0) → ((t : Tables) (n : Nesting) (l : NLined) → KeepsGroups t n l.rec → P t n
    → P (with_plain t l) (with_nested n l.rec))
    → (whole : Tables) (earlier rest : List NLined) → groups_fault whole earlier rest ≡ None
    → P (nested_tables earlier) (nesting_of earlier) → P (nested_tables (earlier ++ rest)) (nesting_of (earlier ++ rest))
walked P step whole earlier [] e h = subst (λ ls. P (nested_tables ls) (nesting_of ls)) (sym (append-nil earlier)) h
walked P step whole earlier (l ∷ rest) e h =
    let here : P (with_plain (nested_tables earlier) l) (with_nested (nesting_of earlier) l.rec) =
    step (nested_tables earlier) (nesting_of earlier) l (keeps whole earlier l rest e) h in
    let next : P (nested_tables (earlier ++ l ∷ [])) (nesting_of (earlier ++ l ∷ [])) =
    rw (tables_more earlier l, nested_more earlier l) here in
    subst (λ ls. P (nested_tables ls) (nesting_of ls)) (append_assoc earlier (l ∷ []) rest)
    (walked P step whole (earlier ++ l ∷ []) rest (both_none _ (groups_fault whole (earlier ++ l ∷ []) rest) e).1 next)

pub holds_of_log : (P : Tables → Nesting → Type 0)
    → ((t : Tables) (n : Nesting) (l : NLined) → KeepsGroups t n l.rec → P t n → P (with_plain t l) (with_nested n l.rec))
    → P no_tables no_nesting → (lines : ℕ) (log : List NLined) → nested_fault lines log ≡ None → P (nested_tables log) (nesting_of log)
unfolding nested_fault
holds_of_log P step start lines log e = walked P step (nested_tables log) [] log
    (both_none (declaration_fault lines (plain_log log)) _ e).1 start

-- The plain records are a log of which no fault is shown.
pub plain_faultless : (lines : ℕ) (log : List NLined) → nested_fault lines log ≡ None → declaration_fault lines (plain_log log) ≡ None
unfolding nested_fault
plain_faultless lines log e = (both_none (declaration_fault lines (plain_log log)) _ e).0
