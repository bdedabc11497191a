use Rattle.cell_races.specs.Questions.{AreKnown}
use Rattle.cell_races.proofs.answers.are_answered.Given as goal

abbrev pub invariant-loop-block : goal.invariant-loop-block
invariant-loop-block l = AreKnown l.graph l.questions l.nexts.items
