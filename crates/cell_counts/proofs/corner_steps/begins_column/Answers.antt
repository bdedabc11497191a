use Rattle.std.proofs.Common.{length, ap, ◌∙◌}
use Rattle.grid.specs.Cuts.{Cuts, cuts_within, x_ends}
use Rattle.cell_counts.proofs.Steps.{is_cut}
use Rattle.cell_counts.proofs.corner_steps.begins_column.Goals as goal

pub returns : goal.returns
returns c = λ all is. is_cut (x_ends all) c.args.x c.column_cuts.result
    (c.column_cuts.ensures.count ∙ ap (λ (g : Cuts). length (cuts_within c.args.x c.args.x g.xs)) is)
