use Rattle.std.proofs.Common.{◌*◌, ap, ◌∙◌}
use Rattle.log_limits.specs.Corners.{corner_total}
use Rattle.log_limits.specs.Sums.{cut}
use Rattle.log_limits.proofs.Counted.{cost_is}
use Rattle.log_limits.proofs.totals.cost_of.Goals as goal

pub returns : goal.returns
returns c = λ t is planar.
    c.saturating_mul.ensures ∙ ap (λ n. cut (n * c.len.result)) c.at.ensures
    ∙ ap (λ m. cut (corner_total c.args.corners.now c.args.space * m)) c.len.ensures
    ∙ ap cut (cost_is t c.args.corners.now c.args.space c.args.fields.now is planar)
