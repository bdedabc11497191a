-- A log as a nested log, in which nothing is nested.
use Rattle.std.proofs.Common.{◌≡◌, ℕ, List, [], ◌∷◌, ◌++◌, fold, refl, ap, ap₂, ◌∙◌, Option, Some, None}
use Rattle.std.specs.Option.{option_or}
use Rattle.spy_grammar.specs.declared.nested.NLined.{NLined}
use Rattle.spy_grammar.specs.declared.nested.NRecord.TheVariants.{Plain}
use Rattle.vocabulary.specs.Prelude.{Fault, Lined, Tables}
use Rattle.semantics.specs.Faults.{declaration_fault}
use Rattle.semantics.specs.Nesting.{Nesting, no_nesting, with_nested, nesting_of, plain_log, nested_tables, groups_fault, nested_fault}
use Rattle.nest_laws.specs.Below.{as_nested}

pub same_log : (log : List Lined) → plain_log (as_nested log) ≡ log
same_log [] = refl
same_log (l ∷ log) = ap (λ ls. l ∷ ls) (same_log log)

pub none_nested : (log : List Lined) → nesting_of (as_nested log) ≡ no_nesting
none_nested log = from no_nesting log
  where
    from : (n : Nesting) (log : List Lined) → fold (λ n (l : NLined). with_nested n l.rec) n (as_nested log) ≡ n
    from n [] = refl
    from n (l ∷ log) = from n log

no_group_fault : (whole : Tables) (earlier : List NLined) (log : List Lined) → groups_fault whole earlier (as_nested log) ≡ None
no_group_fault whole earlier [] = refl
no_group_fault whole earlier (l ∷ log) = no_group_fault whole (earlier ++ record { line = l.line; rec = Plain l.rec } ∷ []) log

pub same_fault : (lines : ℕ) (log : List Lined) → nested_fault lines (as_nested log) ≡ declaration_fault lines log
unfolding nested_fault
same_fault lines log = ap₂ option_or (ap (declaration_fault lines) (same_log log)) (no_group_fault (nested_tables (as_nested log)) [] log)
    ∙ or_none (declaration_fault lines log)
  where
    or_none : (o : Option Fault) → option_or o None ≡ o
    or_none None = refl
    or_none (Some f) = refl
