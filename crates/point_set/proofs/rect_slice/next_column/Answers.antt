use Rattle.std.proofs.Common.{Some, ◌≤◌, sym, subst}
use Rattle.point_set.specs.Least.{IsLeast}
use Rattle.point_set.specs.Rects.{HasColumn}
use Rattle.point_set.proofs.lemmas.Rows.{column_found}
use Rattle.point_set.proofs.rect_slice.next_column.Goals as goal

pub returns-in-Some : goal.returns-in-Some
returns-in-Some c =
    subst (λ n. IsLeast (λ z. HasColumn c.args.rects.now z × (c.args.x ≤ z)) (Some n)) (sym c.max.ensures)
    (column_found c.args.rects.now c.args.x c.in-Some.rect c.requires c.in-Some.ensures)
