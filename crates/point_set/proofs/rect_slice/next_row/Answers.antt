use Rattle.std.proofs.Common.{Some, ◌≤◌, sym, subst}
use Rattle.point_set.specs.Least.{IsLeast}
use Rattle.point_set.specs.Rects.{Has}
use Rattle.point_set.proofs.lemmas.Rows.{next_right, next_off, next_on, next_past}
use Rattle.point_set.proofs.rect_slice.next_row.Goals as goal

pub returns-then-x-band : goal.returns-then-x-band
returns-then-x-band c = next_right c.args.rects.now c.args.x c.args.y c.in-Some.band c.requires c.in-Some.ensures c.if-x-band.true

pub returns-then-x-rect : goal.returns-then-x-rect
returns-then-x-rect c =
    next_off c.args.rects.now c.args.x c.args.y c.in-Some.band c.in-Some-first_at.rect c.requires c.in-Some.ensures c.if-x-band.false c.in-Some-first_at.ensures c.if-x-rect.true

pub returns-else-x-rect : goal.returns-else-x-rect
returns-else-x-rect c =
    subst (λ n. IsLeast (λ v. Has c.args.rects.now c.args.x v × (c.args.y ≤ v)) (Some n)) (sym c.max.ensures)
    (next_on c.args.rects.now c.args.x c.args.y c.in-Some.band c.in-Some-first_at.rect c.requires c.in-Some.ensures c.if-x-band.false c.in-Some-first_at.ensures c.if-x-rect.false)

pub returns-in-None : goal.returns-in-None
returns-in-None c = next_past c.args.rects.now c.args.x c.args.y c.in-Some.band c.requires c.in-Some.ensures c.if-x-band.false c.in-None.ensures
