-- What `nested` finds in an input.
use Rattle.std.specs.Prelude.{◌≡◌, ℕ, List, length, Some, None, ◌⊎◌}
use Rattle.spy_grammar.specs.declared.nested.NLined.{NLined}
use Rattle.vocabulary.specs.Prelude.{Fault, line_count}
use Rattle.findings.specs.declared.finding.Finding.{Finding}
use Rattle.findings.specs.declared.finding.Finding.TheVariants as findings
use Rattle.semantics.specs.Nesting.{NestedReads, free_pairs, nested_fault, nested_tables, nested_text_fault, nesting_of, shown_unlicensed}

-- What is found in a nested log of so many lines: its fault; or the first child that asks for more than its
-- group licenses; or how many tasks are members and how many groups there are, and how many pairs of these
-- are free of each other.
abbrev pub NestedFinds : ℕ → List NLined → Finding → Type 0
NestedFinds lines log (findings.Fault line code) =
    nested_fault lines log ≡ Some (record { line = line; code = code })
NestedFinds lines log (findings.Unlicensed leaf child req group tree point field) =
    (nested_fault lines log ≡ None)
    × (shown_unlicensed (nested_tables log) (nesting_of log)
    ≡ Some (record {
      child = record { leaf = leaf; id = child; group = group };
      req = req;
      place =
          record { tree = tree; point = point; field = field };
    }))
NestedFinds lines log (findings.Nested tasks groups free) =
    (nested_fault lines log ≡ None) × (shown_unlicensed (nested_tables log) (nesting_of log) ≡ None)
    × (tasks ≡ length (nesting_of log).members) × (groups ≡ length (nesting_of log).groups)
    × (free ≡ free_pairs (nested_tables log) (nesting_of log))
NestedFinds lines log _ = ⊥

-- A fault of the input's bytes or lines is shown, read as those of a nested log.
pub record HasNestedTextFault (bytes : List ℕ) (f : Finding) : Type 0 where
  pub fault : Fault
  pub shown : nested_text_fault bytes ≡ Some fault
  pub finding_is : f ≡ findings.Fault fault.line fault.code

-- The input spells a nested log, and this is found in it.
pub record IsFoundNested (bytes : List ℕ) (f : Finding) : Type 0 where
  pub spelled : nested_text_fault bytes ≡ None
  pub log : List NLined
  pub reads : NestedReads bytes log
  pub found : NestedFinds (line_count bytes) log f

-- The outcome of `nested` on an input.
abbrev pub IsNestedOutcome : List ℕ → Finding → Type 0
IsNestedOutcome bytes f = HasNestedTextFault bytes f ⊎ IsFoundNested bytes f
