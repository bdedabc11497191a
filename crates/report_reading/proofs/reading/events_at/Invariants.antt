use Rattle.std.proofs.Common.{◌≡◌, ◌++◌, map, length}
use Rattle.report_reading.specs.Reading as says
use Rattle.report_reading.proofs.reading.events_at.Given as goal

abbrev pub invariant-loop-rest : goal.invariant-loop-rest
invariant-loop-rest l = l.events.items ++ says.events_at (map (λ w. w.now) l.rest) ≡ says.events_at (map (λ w. w.now) l.words)

abbrev pub decreases-loop-rest : goal.decreases-loop-rest
decreases-loop-rest l = length l.rest
