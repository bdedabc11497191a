use Rattle.std.proofs.Common.{ap}
use Rattle.report_reading.specs.CodeReading.{code_among, code_at}
use Rattle.report_reading.proofs.codes.code_of.Goals as goal

pub loop-rest-init : goal.loop-rest-init
unfolding code_at
loop-rest-init c = ap (λ cs. code_among cs c.args.word.now) c.as_slice-rest.ensures
