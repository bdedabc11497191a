use Rattle.std.proofs.Common.{length}
use Rattle.worked_answers.proofs.answers.edit_parts.Given as goal

abbrev pub decreases-loop-rest : goal.decreases-loop-rest
decreases-loop-rest l = length l.rest
