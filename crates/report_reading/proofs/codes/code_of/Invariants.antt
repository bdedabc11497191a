use Rattle.std.proofs.Common.{◌≡◌, length}
use Rattle.report_reading.specs.CodeReading.{code_among, code_at}
use Rattle.report_reading.proofs.codes.code_of.Given as goal

abbrev pub invariant-loop-rest : goal.invariant-loop-rest
invariant-loop-rest l = code_among l.rest l.word ≡ code_at l.word

abbrev pub decreases-loop-rest : goal.decreases-loop-rest
decreases-loop-rest l = length l.rest
