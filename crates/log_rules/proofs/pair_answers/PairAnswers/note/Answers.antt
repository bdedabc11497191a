use Rattle.std.proofs.Common.{sym, ◌∙◌}
use Rattle.log_rules.proofs.Remembered.{answers_more}
use Rattle.log_rules.proofs.pair_answers.PairAnswers.note.Goals as goal

pub returns : goal.returns
returns g c = λ test is are.
    answers_more test c.args.tables.now c.args.self.now (record { answers = c.insert.new.self })
    (record { ours = c.args.ours; theirs = c.args.theirs }) c.args.answer are
    (sym c.has_space.ensures ∙ c.if-not-has_space.false, sym c.has_space-2.ensures ∙ c.if-not-has_space-2.false, is)
    c.in_ok-insert.ensures.updates.0
