use Rattle.std.proofs.Common.{subst, ap, ◌∙◌}
use Rattle.grid.specs.Cuts.{Cuts, IsInSpan, span_at, y_ends}
use Rattle.cell_counts.proofs.Steps.{span_uncut}
use Rattle.cell_counts.proofs.corner_steps.row_end.Goals as goal

pub returns-in-Some-row-clause-uncut : goal.returns-in-Some-row-clause-uncut
returns-in-Some-row-clause-uncut c = λ all is.
    span_uncut (y_ends all) c.in-Some.l c.args.y c.in-Some-row.field-0-0 c.in-Some-row.last
    (subst (λ (g : Cuts). IsInSpan g.ys c.in-Some.l c.args.y) is c.in-Some.ensures.row)
    (c.in-Some-row.ensures ∙ ap (λ (g : Cuts). span_at g.ys c.in-Some.l) is)
