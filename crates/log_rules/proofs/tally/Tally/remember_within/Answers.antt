use Rattle.log_rules.proofs.Remembered.{tally_keeps}
use Rattle.log_rules.proofs.tally.Tally.remember_within.Goals as goal

pub returns : goal.returns
returns g c = λ all earlier is.
    tally_keeps all earlier c.args.tables.now c.args.self.now c.note_within.new.self is (c.in_ok-note_within.ensures all is.kept.cells is.kept.pairs)
