use Rattle.std.proofs.Common.{ℕ, ◌+◌, List, [], ◌∷◌, ap, ◌∙◌}
use Rattle.point_set.specs.declared.rect.Rect.{Rect}
use Rattle.grid.specs.Cuts.{Cuts}
use Rattle.cell_counts.proofs.Grown.{all_grown, same_grid}
use Rattle.cell_counts.proofs.grid_size.GridSize.add.Goals as goal

pub returns : goal.returns
returns c before is =
    let columns : Rect → List ℕ = λ r. r.x0 ∷ (r.x1 + 1) ∷ [] in
    let rows : Rect → List ℕ = λ r. r.y0 ∷ (r.y1 + 1) ∷ [] in
    let was = c.self.view_is ∙ is in
    same_grid _ _ _ _ (all_grown columns c.self.inside.xs.keys c.add_columns.new.ends.keys before c.args.rects.now
    (ap (λ (g : Cuts). g.xs) was)
    c.in_ok-add_columns.ensures)
    (all_grown rows c.self.inside.ys.keys c.add_rows.new.ends.keys before c.args.rects.now (ap (λ (g : Cuts). g.ys) was)
    c.in_ok-add_rows.ensures)
