-- Logs with more records than a rule can want, and what is kept of their records.
use Rattle.std.specs.Prelude.{◌≡◌, ℕ, ◌+◌, ◌==◌, Bool, true, false, not, List, [], ◌++◌, length, is_some, unwrap_or}
use Rattle.std.specs.List.{flat_map, list_any}
use Rattle.std.specs.Option.{option_map_or}
use Rattle.vocabulary.specs.Prelude.{Record, Lined, Node, records_of, is_in, is_within}
use Rattle.spy_grammar.specs.declared.record.Record.TheVariants.{Task}
use Rattle.semantics.specs.declared.limits.TheConstants.{MOST_RECORDS}
use Rattle.crowded_logs.specs.declared.frame.Frame.{Frame}
use Rattle.crowded_logs.specs.Noted.{frame_of}
use Rattle.semantics.specs.Rules.{node_of, completes, runs_task, items_listed, items_declared}

-- So many records of a log make it crowded: of the first of them, which is the header, all but two keep the
-- limit on records. The one before the last of them does not, unless it is an `end`, and the log does not end
-- there.
abbrev pub crowd_count : ℕ
crowd_count = MOST_RECORDS + 3

-- ---- What records ask of the log as a whole.

-- Whether a record waits on an event.
abbrev pub waits_on : ℕ → Record → Bool
waits_on event r = option_map_or (λ (n : Node). is_in n.waits event) (node_of r) false

-- Whether it declares a task of this id.
abbrev pub declares_task : ℕ → Record → Bool
declares_task id (Task other) = other == id
declares_task id _ = false

-- Whether it lists items in serial order.
abbrev pub lists_items : Record → Bool
lists_items r = is_some (items_listed r)

-- The items that some records list.
abbrev pub ids_listed : List Record → List ℕ
ids_listed rs = flat_map (λ r. unwrap_or (items_listed r) []) rs

-- Whether a record declares an item that some records do not list.
abbrev pub has_unlisted : List Record → Record → Bool
has_unlisted first r = not (is_within (items_declared r) (ids_listed first))

-- Some of the later records of a log, which answer what the first ones ask of them all: whether they complete
-- the events that the first ones wait on, run the tasks that those declare, list items, and declare an item
-- that the first ones do not list.
pub record Answer (first later kept : List Record) : Type 0 where
  pub part : (test : Record → Bool) → list_any test kept ≡ true → list_any test later ≡ true
  pub events : (event : ℕ) → list_any (waits_on event) first ≡ true
      → list_any (completes event) later ≡ true → list_any (completes event) kept ≡ true
  pub tasks : (task : ℕ) → list_any (declares_task task) first ≡ true
      → list_any (runs_task task) later ≡ true → list_any (runs_task task) kept ≡ true
  pub lists : list_any lists_items later ≡ true → list_any lists_items kept ≡ true
  pub items : list_any (has_unlisted first) later ≡ true → list_any (has_unlisted first) kept ≡ true

-- Of a crowded log the first records are kept, and of the later ones some that answer what those ask.
pub record IsKeptOf (log kept : List Lined) : Type 0 where
  pub first : List Lined
  pub later : List Lined
  pub kept_later : List Lined
  pub log_is : log ≡ first ++ later
  pub kept_is : kept ≡ first ++ kept_later
  pub many : length first ≡ crowd_count
  pub answer : Answer (records_of first) (records_of later) (records_of kept_later)

-- What is kept of a crowded log, and what is noted of its frame.
pub record IsKeptAs (log kept : List Lined) (frame : Frame) : Type 0 where
  pub is_kept : IsKeptOf log kept
  pub frame_is : frame ≡ frame_of log
