-- What the devices over std count of their calls, and when std's answer to a write is a failure.
use Rattle.std.specs.Prelude.{ℕ, ◌==◌, Bool, true, not, ◌&&◌, Result, Ok, Err, List, length}
use Rattle.spy_io.specs.Causes.{ended_after, faults_after, has_failed, idle_after, is_last}
use Rattle.spy_io.specs.declared.real_source.SourceCounts.{SourceCounts}
use Rattle.spy_io.specs.declared.real_sink.SinkCounts.{SinkCounts}

-- The counts of a source after a call for a buffer.
abbrev pub source_counts_after : {E : Type 0} → SourceCounts → Result ℕ E → List ℕ → SourceCounts
source_counts_after c result into = record {
  faults = faults_after c.faults (has_failed result);
  ended =
      ended_after c.ended (is_last result into);
  idle = idle_after c.idle into;
}

-- The counts of a sink after a call.
abbrev pub sink_counts_after : {E : Type 0} → SinkCounts → Result ℕ E → SinkCounts
sink_counts_after c result = record {
  faults = faults_after c.faults (has_failed result);
  ended =
      ended_after c.ended (has_failed result);
}

-- Whether a write failed: by an error, or by taking nothing of a piece that is not empty.
abbrev pub is_refused : {E : Type 0} → Result ℕ E → List ℕ → Bool
is_refused (Ok n) piece = n == 0 && not (length piece == 0)
is_refused (Err e) piece = true
