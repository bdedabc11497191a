-- Lines of a log, read in part.
use Rattle.std.specs.Prelude.{◌≡◌, ℕ, ◌+◌, ◌≤◌, All, List, ◌++◌, length, Option, IfSome}
use Rattle.vocabulary.specs.Prelude.{Good, Hold, Lined}
use Rattle.crowded_logs.specs.Crowded.{IsKeptOf}
use Rattle.crowded_logs.specs.Noted.{frame_of}
use Rattle.log_reading.specs.declared.reading.Input.{Input}
use Rattle.log_input.specs.Crowding.{IsCrowding}
use Rattle.log_input.specs.declared.crowding.Crowding.{Crowding}
use Rattle.log_input.specs.declared.input.CrowdedInput.{CrowdedInput}
use Rattle.log_input.specs.declared.input.LogInput.{LogInput}
use Rattle.log_input.specs.declared.input.LogInput.TheVariants.{Whole, Crowded}

-- Lines, numbered from `number`, hold these records, and then those of the rest of the lines, which are numbered
-- from `next`.
abbrev pub Lead : ℕ → List (List ℕ) → List Lined → ℕ → List (List ℕ) → Type 0
Lead number lines log next rest = (more : List Lined) → Hold next rest more → Hold number lines (log ++ more)

-- A record that a line says has a spelling.
abbrev pub IsGoodIf : Option Lined → Type 0
IsGoodIf said = IfSome said (λ l. Good l.rec)

-- After the first records of a crowded log, these lines are read but for the rest.
pub record IsReadTo (first : List Lined) (number : ℕ) (lines : List (List ℕ)) (next : ℕ) (rest : List (List ℕ))
    (c : Crowding) : Type 0 where
  pub later : List Lined
  pub lead : Lead number lines later next rest
  pub crowding : IsCrowding first later c

-- After the first records, these lines are read.
pub record IsReadOn (first : List Lined) (number : ℕ) (lines : List (List ℕ)) (c : Crowding) : Type 0 where
  pub later : List Lined
  pub hold : Hold number lines later
  pub crowding : IsCrowding first later c

-- After the first records of a crowded log come those of these lines, and this is kept of all.
pub record IsCrowdOf (first : List Lined) (number : ℕ) (lines : List (List ℕ)) (input : CrowdedInput) : Type 0 where
  pub later : List Lined
  pub hold : Hold number lines later
  pub kept : IsKeptOf (first ++ later) input.kept.items
  pub frame : input.frame ≡ frame_of (first ++ later)
  pub good : All (λ (l : Lined). Good l.rec) input.kept.items
  pub few : length input.kept.items ≤ length first + length lines
  pub count : input.lines + 1 ≡ number + length lines

-- The lines hold just these records.
pub record AreWhole (lines : List (List ℕ)) (input : Input Lined) : Type 0 where
  pub hold : Hold 1 lines input.records.items
  pub good : All (λ (l : Lined). Good l.rec) input.records.items
  pub count : input.lines ≡ length lines

-- The lines hold a crowded log, of which this is kept.
pub record AreCrowded (lines : List (List ℕ)) (input : CrowdedInput) : Type 0 where
  pub log : List Lined
  pub hold : Hold 1 lines log
  pub kept : IsKeptOf log input.kept.items
  pub frame : input.frame ≡ frame_of log
  pub good : All (λ (l : Lined). Good l.rec) input.kept.items
  pub few : length input.kept.items ≤ length lines
  pub count : input.lines ≡ length lines

-- What lines hold.
abbrev pub AreRead : List (List ℕ) → LogInput → Type 0
AreRead lines (Whole input) = AreWhole lines input
AreRead lines (Crowded input) = AreCrowded lines input
