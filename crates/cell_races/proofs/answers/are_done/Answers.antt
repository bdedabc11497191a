use Rattle.std.proofs.Common.{arith}
use Rattle.cell_races.proofs.Answering.{all_answered}
use Rattle.cell_races.proofs.answers.are_done.Goals as goal

pub returns : goal.returns
returns c = λ e nodes known. all_answered nodes c.args.questions.now c.args.nexts.now known
    (λ j d lt. c.loop-k.invariant j d (omega (arith, lt, c.loop-k-test.false, c.deref-question-items.ensures.len)))
