use Rattle.vocabulary.specs.Prelude.{meets}
use Rattle.log_rules.proofs.space_pairs.SpacePairs.meet.Goals as goal

pub returns-in-Some : goal.returns-in-Some
returns-in-Some g c = λ all cells has. c.in-Some.ensures meets c.args.tables.now has.meeting
