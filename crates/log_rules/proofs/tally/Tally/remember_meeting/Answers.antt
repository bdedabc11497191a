use Rattle.log_rules.proofs.Remembered.{tally_keeps}
use Rattle.log_rules.proofs.tally.Tally.remember_meeting.Goals as goal

pub returns : goal.returns
returns g c = λ all earlier is.
    tally_keeps all earlier c.args.tables.now c.args.self.now c.note_meeting.new.self is (c.in_ok-note_meeting.ensures all is.kept.cells is.kept.pairs)
