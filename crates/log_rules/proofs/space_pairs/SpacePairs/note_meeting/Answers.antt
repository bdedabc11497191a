use Rattle.vocabulary.specs.Prelude.{meets}
use Rattle.log_rules.proofs.space_pairs.SpacePairs.note_meeting.Goals as goal

pub returns : goal.returns
returns g c = λ all cells has. record {
  rows = has.rows;
  within = has.within;
  meeting = c.in_ok-note.ensures meets (c.meet-answer.ensures all cells has) has.meeting;
}
