use Rattle.std.proofs.Common.{◌≡◌, List, length}
use Rattle.vocabulary.specs.Prelude.{Node}
use Rattle.reach_marks.specs.BlockMarks.{IsTold}
use Rattle.cell_races.specs.Questions.{AreInBlock, AreKnown}
use Rattle.cell_races.proofs.answers.answer_block.Given as goal

abbrev pub invariant-loop-k : goal.invariant-loop-k
invariant-loop-k l = record {
  each : length l.nexts.items ≡ length l.questions.asked.items;
  known : (nodes : List Node) → IsTold nodes l.order l.reach → AreKnown nodes l.questions l.fn.nexts.items
      → AreKnown nodes l.questions l.nexts.items;
  bits : AreInBlock l.order l.block l.questions.members.items l.in_block.bits l.in_block.from l.in_block.stop;
}
