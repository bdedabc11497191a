use Rattle.std.proofs.Common.{ap, sym, ◌∙◌}
use Rattle.std.proofs.lemmas.Result.{IfOk-weaker}
use Rattle.vocabulary.specs.Prelude.{points_in}
use Rattle.log_rules.specs.Own.{claim_points}
use Rattle.log_rules.proofs.Cells.{corners_told, no_claim_points}
use Rattle.log_rules.proofs.claim_points.ClaimPoints.points_in.Goals as goal

pub returns-in_default : goal.returns-in_default
returns-in_default g c = λ all grid. c.new.ensures.items ∙ sym (ap (claim_points all) c.in_default.ensures ∙ no_claim_points all)

pub returns-in-Some-grid : goal.returns-in-Some-grid
returns-in-Some-grid g c =
    let t = c.args.tables.now in
    IfOk-weaker c.corner_points.result _ _ (λ points told all is. corners_told all c.args.self.now.grid c.in-Some-grid.grid points.items
    (g.P.PointSet.points c.in-Some.set.now) (points_in t c.args.space) c.in-Some-grid.is is
    (sym c.in-Some.ensures) told) c.corner_points.ensures
