use Rattle.std.proofs.Common.{◌≡◌, ◌++◌, map, length}
use Rattle.findings.specs.Texts.{small, row_text}
use Rattle.findings.proofs.writing.push_events.Given as goal

abbrev pub invariant-loop-rest : goal.invariant-loop-rest
invariant-loop-rest l = l.out.items ++ row_text (map small l.rest) ≡ l.fn.out.items ++ row_text (map small l.events)

abbrev pub decreases-loop-rest : goal.decreases-loop-rest
decreases-loop-rest l = length l.rest
