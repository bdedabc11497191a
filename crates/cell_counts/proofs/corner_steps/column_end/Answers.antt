use Rattle.std.proofs.Common.{subst, ap, ◌∙◌}
use Rattle.grid.specs.Cuts.{Cuts, IsInSpan, span_at, x_ends}
use Rattle.cell_counts.proofs.Steps.{span_uncut}
use Rattle.cell_counts.proofs.corner_steps.column_end.Goals as goal

pub returns-in-Some-column-clause-uncut : goal.returns-in-Some-column-clause-uncut
returns-in-Some-column-clause-uncut c = λ all is.
    span_uncut (x_ends all) c.in-Some.k c.args.x c.in-Some-column.field-0-0 c.in-Some-column.last
    (subst (λ (g : Cuts). IsInSpan g.xs c.in-Some.k c.args.x) is c.in-Some.ensures.column)
    (c.in-Some-column.ensures ∙ ap (λ (g : Cuts). span_at g.xs c.in-Some.k) is)
