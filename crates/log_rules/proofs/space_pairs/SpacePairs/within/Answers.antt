use Rattle.std.proofs.Common.{ap, ◌∙◌}
use Rattle.vocabulary.specs.Prelude.{is_within, points_in}
use Rattle.log_rules.proofs.BitRows.{within_itself}
use Rattle.log_rules.proofs.space_pairs.SpacePairs.within.Goals as goal

pub returns-then-ours-theirs : goal.returns-then-ours-theirs
returns-then-ours-theirs g c = λ all cells has.
    let t = c.args.tables.now in
    within_itself (points_in t c.args.ours) ∙ ap (λ id. is_within (points_in t c.args.ours) (points_in t id)) c.if-ours-theirs.true

pub returns-in-Some : goal.returns-in-Some
returns-in-Some g c = λ all cells has. c.in-Some.ensures is_within c.args.tables.now has.within
