use Rattle.std.proofs.Common.{length, ap, ◌∙◌}
use Rattle.grid.specs.Cuts.{Cuts, cuts_within, y_ends}
use Rattle.cell_counts.proofs.Steps.{is_cut}
use Rattle.cell_counts.proofs.corner_steps.begins_row.Goals as goal

pub returns : goal.returns
returns c = λ all is. is_cut (y_ends all) c.args.y c.row_cuts.result
    (c.row_cuts.ensures.count ∙ ap (λ (g : Cuts). length (cuts_within c.args.y c.args.y g.ys)) is)
