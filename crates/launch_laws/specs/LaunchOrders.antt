-- Orders of items that differ in where the tasks of one launch stand. Items are named by position.
use Rattle.std.specs.Prelude.{◌≡◌, ◌≢◌, ◌↔◌, ℕ, true, List, ◌++◌, Some, Contains, AllPairs, slice_get}
use Rattle.vocabulary.specs.Prelude.{LLined, Item, lined, Tables, tables_of}
use Rattle.semantics.specs.Launches.{TaskLaunch, expanded, is_launched, launch_records, written_log}

-- The launches of a launch log, in the order of its lines.
abbrev pub launches_of : List LLined → List TaskLaunch
launches_of log = (expanded (launch_records log)).launches

-- What a launch log declares: the tables of the log that it writes.
abbrev pub launch_tables : List LLined → Tables
launch_tables log = tables_of (lined (written_log log))

-- An item is a task of a launch: its id is one of the launch's.
pub record IsTaskOf (t : Tables) (l : TaskLaunch) (item : ℕ) : Type 0 where
  pub task : Item
  pub at : slice_get t.items item ≡ Some task
  pub launched : is_launched l task.id ≡ true

-- Two orders agree but for the order of some tasks of a launch, which stand next to each other: each of these
-- stands there once, in the one order and in the other.
pub record AgreeButFor (t : Tables) (l : TaskLaunch) (order other : List ℕ) : Type 0 where
  pub front : List ℕ
  pub here : List ℕ
  pub there : List ℕ
  pub back : List ℕ
  pub order_is : order ≡ front ++ here ++ back
  pub other_is : other ≡ front ++ there ++ back
  pub once : AllPairs (λ a b. a ≢ b) here
  pub other_once : AllPairs (λ a b. a ≢ b) there
  pub same : (item : ℕ) → Contains here item ↔ Contains there item
  pub tasks : (item : ℕ) → Contains here item → IsTaskOf t l item
