use Rattle.std.proofs.Common.{◌-◌}
use Rattle.cell_races.specs.Questions.{AreInBlock}
use Rattle.cell_races.proofs.answers.members_in.Given as goal

abbrev pub invariant-loop-stop : goal.invariant-loop-stop
invariant-loop-stop l = AreInBlock l.order l.block l.questions.members.items l.bits l.from l.stop

abbrev pub decreases-loop-stop : goal.decreases-loop-stop
decreases-loop-stop l = l.end - l.stop
