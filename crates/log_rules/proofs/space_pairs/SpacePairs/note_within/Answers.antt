use Rattle.vocabulary.specs.Prelude.{is_within}
use Rattle.log_rules.proofs.space_pairs.SpacePairs.note_within.Goals as goal

pub returns : goal.returns
returns g c = λ all cells has. record {
  rows = has.rows;
  within = c.in_ok-note.ensures is_within (c.within-answer.ensures all cells has) has.within;
  meeting = has.meeting;
}
