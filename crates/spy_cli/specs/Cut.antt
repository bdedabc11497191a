-- Inputs that are cut off.
use Rattle.std.specs.Prelude.{◌≡◌, ℕ, ◌<◌, ◌++◌, true, List, Contains}
use Rattle.vocabulary.specs.Prelude.{Code, Lined, Command, Fault, line_count}
use Rattle.spy_grammar.specs.declared.code.Code.TheVariants.{Ended, Header, Newline}
use Rattle.findings.specs.declared.finding.Finding.TheVariants as findings
use Rattle.semantics.specs.Faults.{is_end}
use Rattle.outcomes.specs.Outcome.{IsOutcome}

-- The front of an input without the whole line of `end`, with its line feed.
pub record IsCut (bytes : List ℕ) (log : List Lined) (front : List ℕ) : Type 0 where
  pub back : List ℕ
  pub parts : bytes ≡ front ++ back
  pub before_end : (l : Lined) → Contains log l → is_end l.rec ≡ true → line_count front < l.line

-- The codes that say that something is missing at the end.
abbrev pub IsCodeOfCut : Code → Type 0
IsCodeOfCut Newline = Unit {0}
IsCodeOfCut Header = Unit {0}
IsCodeOfCut Ended = Unit {0}
IsCodeOfCut _ = ⊥

-- The outcome is a fault with such a code.
pub record ShowsCut (command : Command) (front : List ℕ) : Type 0 where
  pub fault : Fault
  pub code : IsCodeOfCut fault.code
  pub outcome : IsOutcome command front (findings.Fault fault.line fault.code)
