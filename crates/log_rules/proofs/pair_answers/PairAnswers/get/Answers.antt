use Rattle.std.proofs.Common.{sym}
use Rattle.log_rules.proofs.Remembered.{answer_kept}
use Rattle.log_rules.proofs.pair_answers.PairAnswers.get.Goals as goal

pub returns-in-Some : goal.returns-in-Some
returns-in-Some c = λ test t are.
    answer_kept test t c.args.self.now (record { ours = c.args.ours; theirs = c.args.theirs }) c.in-Some.answer.now are
    (sym c.in-Some.ensures.value)
