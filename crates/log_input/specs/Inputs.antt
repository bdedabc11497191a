-- What an input spells, as far as it is kept.
use Rattle.std.specs.Prelude.{ℕ, ◌≤◌, All, List, length}
use Rattle.vocabulary.specs.Prelude.{Good, AreLines, Lined}
use Rattle.semantics.specs.declared.limits.TheConstants.{MOST_BYTES}
use Rattle.crowded_logs.specs.Crowded.{IsKeptAs}
use Rattle.log_reading.specs.Spelled.{Spells}
use Rattle.log_reading.specs.declared.reading.Input.{Input}
use Rattle.log_input.specs.declared.input.CrowdedInput.{CrowdedInput}
use Rattle.log_input.specs.declared.input.LogInput.{LogInput}
use Rattle.log_input.specs.declared.input.LogInput.TheVariants.{Whole, Crowded}

-- The input spells just these records.
pub record SpellsWhole (bytes : List ℕ) (input : Input Lined) : Type 0 where
  pub spelled : Spells bytes input.lines input.records.items
  pub good : All (λ (l : Lined). Good l.rec) input.records.items
  pub lines : AreLines input.lines input.records.items

-- The input spells a crowded log, of which this is kept.
pub record SpellsCrowded (bytes : List ℕ) (input : CrowdedInput) : Type 0 where
  pub log : List Lined
  pub spelled : Spells bytes input.lines log
  pub told : IsKeptAs log input.kept.items input.frame
  pub good : All (λ (l : Lined). Good l.rec) input.kept.items
  pub few_kept : length input.kept.items ≤ MOST_BYTES
  pub few_lines : input.lines ≤ MOST_BYTES

-- What an input spells.
abbrev pub IsInput : List ℕ → LogInput → Type 0
IsInput bytes (Whole input) = SpellsWhole bytes input
IsInput bytes (Crowded input) = SpellsCrowded bytes input
