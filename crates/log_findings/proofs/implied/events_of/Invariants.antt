use Rattle.std.proofs.Common.{◌≡◌, map, take}
use Rattle.outcomes.specs.Outcome.{events_of_wait}
use Rattle.log_findings.proofs.implied.events_of.Given as goal

abbrev pub invariant-loop-wait : goal.invariant-loop-wait
invariant-loop-wait g l = l.list.items ≡ map (events_of_wait l.log) (take l.wait-index l.waits)
