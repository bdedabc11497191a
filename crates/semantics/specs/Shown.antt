-- Which unordered pair and which race are shown of several. (The fault, the cycle and the differing read that
-- are shown are computed where they are defined.)
use Rattle.std.specs.Prelude.{◌≡◌, ℕ, ◌==◌, ◌<◌, ◌≤◌, Bool, false, ◌&&◌, List, ◌∷◌, ◌++◌, filter, length, position, unwrap_or, slice_get}
use Rattle.std.specs.List.{AllByRecursion}
use Rattle.std.specs.Option.{option_map_or}
use Rattle.semantics.specs.declared.places.Cell.{Cell}
use Rattle.semantics.specs.declared.tables.Item.{Item}
use Rattle.semantics.specs.declared.tables.LogNode.{LogNode}
use Rattle.semantics.specs.Tables.{Tables}
use Rattle.semantics.specs.Kinds.{pairs, comes_first}
use Rattle.semantics.specs.SerialOrder.{by_serial}
use Rattle.semantics.specs.Events.{graph_of, Before}
use Rattle.semantics.specs.ReplayOrder.{done_at, replay_order}
use Rattle.semantics.specs.Races.{Race}
use Rattle.semantics.specs.Rules.{is_task, runs_item}

-- The event of the node at a position.
abbrev pub event_of : Tables → ℕ → ℕ
event_of t k = unwrap_or (done_at (graph_of t.nodes) k) 0

-- Whether the item at a position is a task.
abbrev pub is_task_at : Tables → ℕ → Bool
is_task_at t item = option_map_or (λ (i : Item). is_task i.body) (slice_get t.items item) false

-- The pairs of tasks that interfere, each in program order.
abbrev pub task_pairs : Tables → List (ℕ × ℕ)
task_pairs t = filter (λ (p : ℕ × ℕ). is_task_at t p.0 && is_task_at t p.1) (pairs t)

-- The node that runs an item.
abbrev pub run_of : Tables → ℕ → ℕ
run_of t item = unwrap_or (position (λ (n : LogNode). runs_item item n.op) t.nodes) (length t.nodes)

-- The run of the item that is earlier in serial order is before the run of the other.
abbrev pub IsKept : Tables → ℕ × ℕ → Type 0
IsKept t p = Before (graph_of t.nodes) (run_of t (by_serial t p).0) (run_of t (by_serial t p).1)

-- Every two tasks that interfere are run in serial order.
abbrev pub AreKept : Tables → Type 0
AreKept t = AllByRecursion (IsKept t) (task_pairs t)

-- The unordered pair that is shown: the first in program order.
pub record IsShownPair (t : Tables) (p : ℕ × ℕ) : Type 0 where
  pub front : List (ℕ × ℕ)
  pub back : List (ℕ × ℕ)
  pub parts : task_pairs t ≡ front ++ p ∷ back
  pub kept : AllByRecursion (IsKept t) front
  pub not_kept : IsKept t p → ⊥

-- How many nodes come before a node in replay order.
abbrev pub replay_place : Tables → ℕ → ℕ
replay_place t k = unwrap_or (position (λ n. n == k) (replay_order (graph_of t.nodes))) (length t.nodes)

-- The race that is shown: at the least cell with a race, the first node in replay order that races there with
-- an earlier one, and the first such earlier one.
pub record IsShownRace (t : Tables) (a b : ℕ) (cell : Cell) : Type 0 where
  pub race : Race t a b cell
  pub in_order : replay_place t a < replay_place t b
  pub least_cell : (c d : ℕ) (other : Cell) → Race t c d other
      → comes_first (other.inst, other.point, other.field) (cell.inst, cell.point, cell.field) ≡ false
  pub first_later : (c d : ℕ) → Race t c d cell → replay_place t c < replay_place t d
      → replay_place t b ≤ replay_place t d
  pub first_earlier : (c : ℕ) → Race t c b cell → replay_place t c < replay_place t b
      → replay_place t a ≤ replay_place t c
