-- The rules on single records, by their codes.
use Rattle.std.proofs.Common.{◌≡◌, Bool, true, false, inl, inr, List, [], ◌∷◌, find, None, sym, ap, ◌∙◌}
use Rattle.std.specs.List.{list_any}
use Rattle.std.proofs.lemmas.Bool.{cases_Bool, true≢false}
use Rattle.std.proofs.lemmas.Option.{none-some}
use denote.Enum.Bare.{sameb, same_true}
use Rattle.spy_grammar.specs.declared.code.Code.{Code}
use Rattle.spy_grammar.specs.contracts.code.Code.{the_type}
use Rattle.semantics.specs.Faults.{record_rules}

-- Whether a code is one of some. At codes that are written out it computes.
abbrev pub is_among : List Code → Code → Bool
is_among codes code = list_any (sameb the_type code) codes

-- Whether a code is that of a rule on single records.
abbrev pub is_record_rule : Code → Bool
is_record_rule code = is_among record_rules code

passed_by : (test : Code → Bool) (codes : List Code) → find test codes ≡ None → (code : Code) → is_among codes code ≡ true
    → test code ≡ false
passed_by test [] none code among = absurd (true≢false (sym among))
passed_by test (first ∷ rest) none code among = elim (cases_Bool (test first)) [
  | inl passes ↦ absurd (none-some first (sym (rw passes at none)))
  | inr fails ↦ elim (cases_Bool (sameb the_type code first)) [
    | inl same ↦ ap test (same_true the_type tt code first same) ∙ fails
    | inr other ↦ passed_by test rest (rw fails at none) code (rw other at among)
  ]
]

-- Where no rule on single records passes a test, the rule with this code does not.
pub none_passes : (test : Code → Bool) → find test record_rules ≡ None → (code : Code) → is_record_rule code ≡ true → test code ≡ false
none_passes test none code is = passed_by test record_rules none code is
