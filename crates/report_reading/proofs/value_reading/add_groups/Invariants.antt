use Rattle.std.proofs.Common.{◌≡◌, length}
use Rattle.report_reading.specs.ValueReading as says
use Rattle.report_reading.proofs.value_reading.add_groups.Given as goal

abbrev pub invariant-loop-word : goal.invariant-loop-word
invariant-loop-word l = says.with_groups l.words l.value ≡ says.with_groups l.fn.words l.fn.value

abbrev pub decreases-loop-word : goal.decreases-loop-word
decreases-loop-word l = length l.words
