-- How a stage of judging stops.
use Rattle.std.specs.Prelude.{◌≡◌, Some}
use Rattle.findings.specs.declared.finding.Finding.{Finding}
use Rattle.findings.specs.declared.finding.Finding.TheVariants as findings
use Rattle.findings.specs.Texts.{Good}
use Rattle.semantics.specs.declared.command.Command.TheVariants.{Check}
use Rattle.outcomes.specs.Outcome.{CheckFinds}
use Rattle.vocabulary.specs.Prelude.{Tables}
use Rattle.log_findings.specs.Findings.{table_fault}
use Rattle.verdict.specs.declared.stop.Stop.{Stop}
use Rattle.verdict.specs.declared.stop.Stop.TheVariants.{Found, Memory}

-- What is found is so, and it has a text. Memory may have run out at any time.
abbrev pub IsStop : (Finding → Type 0) → Stop → Type 0
IsStop P (Found f) = P f × Good f
IsStop P Memory = Unit {0}

-- What each stage of `check` can find, and nothing else: a fault of the tables, a cycle, a race, a read that
-- differs.
abbrev pub FindsFault : Tables → Finding → Type 0
FindsFault t (findings.Fault line code) = table_fault Check t ≡ Some (record { line = line; code = code })
FindsFault t _ = ⊥

abbrev pub FindsCycle : Tables → Finding → Type 0
FindsCycle t (findings.Cycle events) = CheckFinds t (findings.Cycle events)
FindsCycle t _ = ⊥

abbrev pub FindsRace : Tables → Finding → Type 0
FindsRace t (findings.Race a b inst point field) = CheckFinds t (findings.Race a b inst point field)
FindsRace t _ = ⊥

-- The first of a cycle and a race: `check` and `why` find it alike.
abbrev pub FindsUnclean : Tables → Finding → Type 0
FindsUnclean t (findings.Cycle events) = FindsCycle t (findings.Cycle events)
FindsUnclean t (findings.Race a b inst point field) = FindsRace t (findings.Race a b inst point field)
FindsUnclean t _ = ⊥

abbrev pub FindsDifference : Tables → Finding → Type 0
FindsDifference t (findings.Differ task number point field got want) =
    CheckFinds t (findings.Differ task number point field got want)
FindsDifference t _ = ⊥
