-- What is gathered of a log as a whole.
use Rattle.std.specs.Prelude.{◌≡◌, ℕ, Bool, true, List, [], filter, length, Option, Some, None, is_some}
use Rattle.std.specs.List.{list_any}
use Rattle.std.specs.Option.{option_map, option_map_or}
use Rattle.vocabulary.specs.Prelude.{Record, Node}
use Rattle.spy_grammar.specs.declared.record.Record.TheVariants.{Run}
use Rattle.semantics.specs.Rules.{node_of, completes, runs_task, items_listed}

-- The completion event of a record.
abbrev pub done_of : Record → Option ℕ
done_of r = option_map (λ (n : Node). n.done) (node_of r)

-- The events that a record waits on.
abbrev pub waits_of : Record → List ℕ
waits_of r = option_map_or (λ (n : Node). n.waits) (node_of r) []

-- The task that a record runs.
abbrev pub task_run : Record → Option ℕ
task_run (Run task done waits) = Some task
task_run _ = None

-- How many records list items in serial order.
abbrev pub list_count : List Record → ℕ
list_count log = length (filter (λ r. is_some (items_listed r)) log)

-- Of some events these are the ones that the records complete.
abbrev pub AreCompleted : List Record → (ℕ → Bool) → (ℕ → Bool) → Type 0
AreCompleted log events done = (event : ℕ) → events event ≡ true → done event ≡ list_any (completes event) log

-- Of some tasks these are the ones that the records run.
abbrev pub AreRun : List Record → (ℕ → Bool) → (ℕ → Bool) → Type 0
AreRun log tasks run = (task : ℕ) → tasks task ≡ true → run task ≡ list_any (runs_task task) log

-- What is kept of the records is right.
pub record IsGathered (log : List Record) (events done tasks run : ℕ → Bool) (lists : ℕ) : Type 0 where
  pub completions : AreCompleted log events done
  pub runs : AreRun log tasks run
  pub count : lists ≡ list_count log
