-- Logs that keep each rule of `check`.
use Rattle.std.specs.Prelude.{◌≡◌, ℕ, List, None}
use Rattle.std.specs.List.{AllByRecursion}
use Rattle.vocabulary.specs.Prelude.{Lined, Good, records_of, Tables, tables_of}
use Rattle.semantics.specs.declared.command.Command.TheVariants.{Check}
use Rattle.semantics.specs.Faults.{log_fault}

-- The tables are those of good records of which `check` shows no fault.
pub record AreFaultless (t : Tables) : Type 0 where
  pub lines : ℕ
  pub log : List Lined
  pub good : AllByRecursion Good (records_of log)
  pub faultless : log_fault Check lines log ≡ None
  pub tables : t ≡ tables_of log
