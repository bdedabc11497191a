-- What the walk over a launch log finds.
use Rattle.std.specs.Prelude.{◌≡◌, ℕ, ◌≤◌, ⊤, List, [], ◌∷◌, length, Contains, Option, None}
use Rattle.std.specs.List.{zip}
use Rattle.vocabulary.specs.Prelude.{Fault, LLined, Record}
use Rattle.semantics.specs.Launches.{Expanded, launches_fault, not_expanded, written_log}
use Rattle.launch_claims.specs.Interference.{IsLeast}
use Rattle.launches.specs.Interfering.{BreaksAt, first_fault}

-- No record is written by a line after that of a later one.
abbrev pub AreInOrder : List (ℕ × Record) → Type 0
AreInOrder [] = ⊤
AreInOrder (w ∷ ws) = ((v : ℕ × Record) → Contains ws v → w.0 ≤ v.0) × AreInOrder ws

-- What is launched and written up to the first record that breaks a rule by itself, with the lines beside it,
-- and the fault of that record: the fault of the log is that of the first interference, and else this one.
pub record HasWalked (log : List LLined) (e : Expanded) (launched written : List ℕ)
    (shown : Option Fault) : Type 0 where
  pub fault : (o : Option ℕ) → IsLeast (BreaksAt (zip launched e.launches) (zip written e.written)) o
      → launches_fault not_expanded log ≡ first_fault o shown
  pub whole : shown ≡ None → e.written ≡ written_log log
  pub launches : length launched ≤ length e.launches
  pub records : length written ≤ length e.written
  pub order : AreInOrder (zip written e.written)
