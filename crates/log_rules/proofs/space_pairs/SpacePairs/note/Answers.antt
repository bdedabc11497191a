use Rattle.vocabulary.specs.Prelude.{is_within, meets}
use Rattle.log_rules.proofs.Remembered.{answers_stay}
use Rattle.log_rules.proofs.space_pairs.SpacePairs.note.Goals as goal

pub returns : goal.returns
returns g c = λ all line grid has.
    let t = c.args.tables.now in
    let r = c.args.rec.now in
    record {
      rows = c.in_ok-note.ensures all line grid has.rows;
      within = answers_stay is_within t line r c.args.self.now.within has.within;
      meeting = answers_stay meets t line r c.args.self.now.meeting has.meeting;
    }
