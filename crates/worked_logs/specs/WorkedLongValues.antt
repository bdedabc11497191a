-- Parts of worked long values.
use Rattle.std.specs.Prelude.{⊤, ℕ, List, Option, slice_get}
use Rattle.vocabulary.specs.Prelude.{Record, from_first, from_second, lined, tables_of, replay_steps}
use Rattle.semantics.specs.Computed.{logs_computed}
use Rattle.long_values.specs.LongSequential.{LongRead}
use Rattle.long_values.specs.LongExecution.{executed_long, start_long}
use Rattle.long_values.specs.LongValues.{Long, init, out, added, Readings, no_reads, reading, add_long, fold_long}
use Rattle.worked_logs.specs.WorkedLogs.{first_place}

-- What a proof unfolds to compute with long values that are written out.
unfoldable pub long_values_computed : ⊤
unfolding logs_computed add_long fold_long
long_values_computed = tt

-- What the first task writes: it has read nothing.
abbrev pub first_writes : Long
first_writes = out 1 no_reads

-- A read of what it wrote, at a point of the region, and then others.
abbrev pub first_seen : ℕ → Readings → Readings
first_seen point later = reading 1 (record { tree = 1; point = point; field = 1 }) first_writes later

-- What the second task writes when it has read this at each point.
abbrev pub second_writes : Long
second_writes = out 2 (first_seen 0 (first_seen 1 (first_seen 2 (first_seen 3 no_reads))))

-- What two tasks have added to the value at the start.
abbrev pub both_added_long : Long
both_added_long = added 1 from_second no_reads (added 1 from_first no_reads init)

-- What the first task contributes to the value at the start, when it has read nothing, and when it has read a
-- place that another task had written.
abbrev pub contributed : Readings → Long
contributed reads = added 1 from_first reads init

abbrev pub unread : Readings
unread = no_reads

abbrev pub read_first : Readings
read_first = first_seen 0 no_reads

-- The read at this position in the replay of a log.
abbrev pub replayed_read : List Record → ℕ → Option LongRead
replayed_read log k =
    slice_get (executed_long (tables_of (lined log)) (replay_steps (tables_of (lined log)))
    (start_long (tables_of (lined log)))).reads k

-- The third task reads this at the first place.
abbrev pub third_reads : Long → LongRead
third_reads value = record { task = 3; req = 1; place = first_place; value = value }
