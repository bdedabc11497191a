-- Interference in launches, judged of all that is written. Beside each launch and each written record stands
-- the line of the record that it comes from.
use Rattle.std.specs.Prelude.{◌≡◌, ℕ, ◌<◌, ◌≤◌, nat_lt, List, filter, map, Contains, IsTrue, Option, Some, None}
use Rattle.vocabulary.specs.Prelude.{Fault, Record, lined, tables_of}
use Rattle.spy_grammar.specs.declared.code.Code.TheVariants as codes
use Rattle.semantics.specs.Faults.{at_line}
use Rattle.semantics.specs.Launches.{TaskLaunch, clash}

-- What is written by the lines before this one.
abbrev pub written_before : ℕ → List (ℕ × Record) → List Record
written_before line ws = map (λ (w : ℕ × Record). w.1) (filter (λ (w : ℕ × Record). nat_lt w.0 line) ws)

-- What the record on this line writes for a task of an earlier launch clashes with what is written by then
-- for another task of that launch.
pub record BreaksAt (ls : List (ℕ × TaskLaunch)) (ws : List (ℕ × Record)) (line : ℕ) : Type 0 where
  pub launch : ℕ × TaskLaunch
  pub own : ℕ × Record
  pub other : ℕ × Record
  pub launched : Contains ls launch
  pub writes : Contains ws own
  pub has : Contains ws other
  pub earlier : launch.0 < line
  pub at : own.0 ≡ line
  pub until : other.0 ≤ line
  pub clash : IsTrue (clash (tables_of (lined (written_before line ws))) launch.1 own.1 other.1)

-- The fault at the first line at which interference breaks a rule, and else another fault.
abbrev pub first_fault : Option ℕ → Option Fault → Option Fault
first_fault None fault = fault
first_fault (Some line) fault = Some (at_line codes.LaunchInterference line)
