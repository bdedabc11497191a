-- Which tables are those of a log.
use Rattle.std.specs.Prelude.{◌≡◌, ℕ, List, None}
use Rattle.std.specs.List.{AllByRecursion}
use Rattle.vocabulary.specs.Prelude.{Lined, Good, records_of, AreLines, Tables, tables_of}
use Rattle.semantics.specs.Faults.{declaration_fault}

-- The tables are those of good records, on lines that ascend, that break no rule of a log's frame and no rule
-- on single records.
pub record AreDeclared (t : Tables) : Type 0 where
  pub lines : ℕ
  pub log : List Lined
  pub good : AllByRecursion Good (records_of log)
  pub on_lines : AreLines lines log
  pub faultless : declaration_fault lines log ≡ None
  pub tables : t ≡ tables_of log
