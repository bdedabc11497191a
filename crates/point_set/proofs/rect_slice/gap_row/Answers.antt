use Rattle.std.proofs.Common.{subst}
use Rattle.point_set.specs.Rects.{Parts}
use Rattle.point_set.proofs.lemmas.Rows.{gap_right, gap_below, gap_ahead}
use Rattle.point_set.proofs.rect_slice.gap_row.Goals as goal

pub returns-then-x-band : goal.returns-then-x-band
returns-then-x-band c =
    gap_right c.args.rects.now c.args.x c.args.y c.in-Some.band c.requires c.ranges.y.fits c.in-Some.ensures c.if-x-band.true

pub gap_after-requires-clause-behind : goal.gap_after-requires-clause-behind
gap_after-requires-clause-behind c =
    gap_below c.args.rects.now c.args.x c.args.y c.place_from.result c.in-Some.band c.requires c.in-Some.ensures c.if-x-band.false
    (subst (λ p. Parts c.args.rects.now p c.place_from.result) c.point.ensures c.place_from.ensures)

pub gap_after-requires-clause-ahead : goal.gap_after-requires-clause-ahead
gap_after-requires-clause-ahead c =
    gap_ahead c.args.rects.now c.args.x c.args.y c.place_from.result c.in-Some.band c.requires c.in-Some.ensures c.if-x-band.false
    (subst (λ p. Parts c.args.rects.now p c.place_from.result) c.point.ensures c.place_from.ensures)
