use Rattle.std.proofs.Common.{Some, sym, subst, ◌+◌, ◌*◌, ◌^◌}
use Rattle.point_set.specs.Least.{IsLeastFrom}
use Rattle.point_set.specs.Rects.{rect_points}
use Rattle.point_set.proofs.Numbers.{next_in_row, next_behind}
use Rattle.point_set.proofs.plane.next_from.Goals as goal

pub returns-in-Some : goal.returns-in-Some
returns-in-Some c =
    let rects = c.args.rects.now in
    let at = c.column_and_row-x.ensures in
    let x = c.column_and_row-x.result.0 in
    let y = c.column_and_row-x.result.1 in
    subst (λ q. IsLeastFrom (rect_points rects) c.args.p (Some q)) (sym c.point.ensures)
    (subst (λ p. IsLeastFrom (rect_points rects) p (Some (x * 2 ^ 32 + c.in-Some.row))) (sym at.0)
    (next_in_row rects x y c.in-Some.row c.requires at.2 c.in-Some.ensures))

pub returns-in-None : goal.returns-in-None
returns-in-None c =
    let rects = c.args.rects.now in
    let at = c.column_and_row-x.ensures in
    subst (λ p. IsLeastFrom (rect_points rects) p c.first_right_of.result) (sym at.0)
    (next_behind rects c.column_and_row-x.result.0 c.column_and_row-x.result.1 c.first_right_of.result c.requires at.2 c.in-None.ensures c.first_right_of.ensures)
