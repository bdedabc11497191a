-- What the kept later records of a log answer.
use Rattle.std.specs.Prelude.{◌≡◌, ℕ, Bool, false, not, ◌&&◌, ◌||◌, List, Option, Some, None, is_some}
use Rattle.std.specs.List.{list_any, list_all}
use Rattle.std.specs.Option.{option_map, option_map_or}
use Rattle.id_maps.specs.Sets.{has_id}
use Rattle.vocabulary.specs.Prelude.{Record, Node}
use Rattle.spy_grammar.specs.declared.record.Record.TheVariants.{Run}
use Rattle.semantics.specs.Rules.{node_of, completes, runs_task, items_listed, items_declared}
use Rattle.crowded_logs.specs.Crowded.{lists_items, has_unlisted}
use Rattle.log_input.specs.declared.asked.AskedIds.{AskedIds}
use Rattle.log_input.specs.declared.answered.Answered.{Answered}

-- The completion event of a record.
abbrev pub done_of : Record → Option ℕ
done_of r = option_map (λ (n : Node). n.done) (node_of r)

-- The task that it runs.
abbrev pub task_run : Record → Option ℕ
task_run (Run task done waits) = Some task
task_run _ = None

-- Whether it declares an item that is not listed.
abbrev pub leaves_out : AskedIds → Record → Bool
leaves_out asked r = not (list_all (has_id asked.listed) (items_declared r))

-- Whether an id is asked for and not answered.
abbrev pub is_open : (ℕ → Bool) → (ℕ → Bool) → Option ℕ → Bool
is_open asked answered id = option_map_or (λ n. asked n && not (answered n)) id false

-- Whether a record answers something that is asked and not answered yet.
abbrev pub answers_more : AskedIds → Answered → Record → Bool
answers_more asked answered r =
    is_open (has_id asked.events) (has_id answered.events) (done_of r)
    || is_open (has_id asked.tasks) (has_id answered.tasks) (task_run r)
    || (is_some (items_listed r) && not answered.lists)
    || (leaves_out asked r && not answered.leaves_out)

-- What one record more answers.
pub record AddsAnswer (asked : AskedIds) (old new : Answered) (r : Record) : Type 0 where
  pub events : (n : ℕ) → has_id new.events n ≡ (has_id old.events n || completes n r)
  pub tasks : (n : ℕ) → has_id new.tasks n ≡ (has_id old.tasks n || runs_task n r)
  pub lists : new.lists ≡ (old.lists || lists_items r)
  pub leaves_out : new.leaves_out ≡ (old.leaves_out || leaves_out asked r)

-- What some records answer of what the first ones ask.
pub record IsAnsweredBy (first kept : List Record) (answered : Answered) : Type 0 where
  pub events : (n : ℕ) → has_id answered.events n ≡ list_any (completes n) kept
  pub tasks : (n : ℕ) → has_id answered.tasks n ≡ list_any (runs_task n) kept
  pub lists : answered.lists ≡ list_any lists_items kept
  pub leaves_out : answered.leaves_out ≡ list_any (has_unlisted first) kept
