-- What one record more writes.
use Rattle.std.specs.Prelude.{◌≡◌, ◌++◌, ℕ, ◌+◌, ◌^◌, ◌≤◌, List, [], ◌∷◌, Option, find, length, map, unwrap_or}
use Rattle.vocabulary.specs.Prelude.{Code, LRecord, Record, Good, lined, tables_of}
use Rattle.spy_grammar.specs.declared.code.Code.TheVariants as codes
use Rattle.spy_grammar.specs.declared.record.Record.TheVariants as records
use Rattle.semantics.specs.Launches.{TaskLaunch, Expanded, breaks_launch, space_under}
use Rattle.launches.specs.declared.launched.Launched.{Launched}
use Rattle.launches.specs.declared.tasks.TaskReqs.{TaskReqs}

-- A launch, as definitions see it.
abbrev pub launch_seen : Launched → TaskLaunch
launch_seen l = record { base = l.base; colours = l.colours }

-- These launches and written records.
abbrev pub expanded_as : List Launched → List Record → Expanded
expanded_as launches written = record { launches = map launch_seen launches; written = written }

-- The first space that a partition has under a colour by these records.
abbrev pub space_by : List Record → ℕ → ℕ → Option ℕ
space_by rs part colour = space_under (tables_of (lined rs)) part colour

-- The requirement of one task, by the records that are written.
abbrev pub req_for : List Record → TaskReqs → ℕ → ℕ → Record
req_for rs reqs id colour = records.Req id reqs.tree
    (unwrap_or (space_by rs reqs.part colour) 0) reqs.fields.now reqs.access reqs.atomic

-- The requirement of a task has a spelling wherever task and space have ids.
abbrev pub AreGood : TaskReqs → Type 0
AreGood reqs = Good (records.Req 1 reqs.tree 1 reqs.fields.now reqs.access reqs.atomic)

-- The id of each task of a launch is below 2 ^ 32.
abbrev pub HasTaskIds : Launched → Type 0
HasTaskIds l = l.base + length l.colours ≤ 2 ^ 32

-- The rules that are tried before a record is written.
abbrev pub early_rules : List Code
early_rules = codes.RepeatedId ∷ codes.UnknownId ∷ codes.LaunchRange ∷ []

-- The rules on launches that are tried of a record by itself: all but that on interference.
abbrev pub single_rules : List Code
single_rules = codes.RepeatedId ∷ codes.UnknownId ∷ codes.LaunchRange ∷ codes.TooManyRecords ∷ codes.TooLong
    ∷ []

-- The first of these that a record breaks.
abbrev pub single_broken : Expanded → LRecord → Option Code
single_broken e r = find (breaks_launch e r) single_rules

-- What is launched and written before stands first in what is so afterwards.
pub record IsKept (e f : Expanded) : Type 0 where
  pub launches : (ls : List TaskLaunch) × (f.launches ≡ e.launches ++ ls)
  pub written : (rs : List Record) × (f.written ≡ e.written ++ rs)
