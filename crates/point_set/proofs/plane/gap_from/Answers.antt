use Rattle.std.proofs.Common.{Some, sym, subst, ◌+◌, ◌*◌, ◌^◌}
use Rattle.point_set.specs.Least.{IsLeastGap}
use Rattle.point_set.specs.Rects.{rect_points}
use Rattle.point_set.proofs.Numbers.{gap_in_row, gap_after_column, full_from}
use Rattle.point_set.proofs.plane.gap_from.Goals as goal

pub returns-in-Some : goal.returns-in-Some
returns-in-Some c =
    let rects = c.args.rects.now in
    let at = c.column_and_row-x.ensures in
    let x = c.column_and_row-x.result.0 in
    let y = c.column_and_row-x.result.1 in
    subst (λ q. IsLeastGap (rect_points rects) c.args.p (Some q)) (sym c.point.ensures)
    (subst (λ p. IsLeastGap (rect_points rects) p (Some (x * 2 ^ 32 + c.in-Some.row))) (sym at.0)
    (gap_in_row rects x y c.in-Some.row c.requires at.1 c.in-Some.ensures))

pub returns-in-None : goal.returns-in-None
returns-in-None c =
    let rects = c.args.rects.now in
    let at = c.column_and_row-x.ensures in
    let x = c.column_and_row-x.result.0 in
    let y = c.column_and_row-x.result.1 in
    subst (λ p. IsLeastGap (rect_points rects) p c.gap_right_of.result) (sym at.0)
    (gap_after_column rects x y c.gap_right_of.result at.2 (full_from rects x y c.in-None.ensures) c.gap_right_of.ensures)
