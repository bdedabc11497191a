use Rattle.std.proofs.Common.{◌+◌, sym, subst, inl, inr, arith}
use Rattle.std.proofs.lemmas.Bool.{cases_lt}
use Rattle.point_set.specs.Rects.{EndBelow, EndFrom, rect_at}
use Rattle.point_set.proofs.lemmas.Rows.{gap_is, no_gap, missed_here, filled_more, below_more, from_more}
use Rattle.point_set.proofs.rect_slice.gap_after.Goals as goal
use Rattle.point_set.proofs.rect_slice.gap_after.Goals.{then-x-rect-via-then-x-rect, then-x-rect-via-else-x-rect+then-gap-rect}

pub returns-then-x-rect : goal.returns-then-x-rect
returns-then-x-rect c =
    let rects = c.args.rects.now in
    let inv = c.loop-k.invariant in
    gap_is rects c.args.x c.args.y c.loop-k.gap inv.from inv.fits inv.filled
    (missed_here rects c.args.x c.loop-k.gap c.loop-k.k c.requires.rects inv.behind inv.ahead c.loop-k-test.true
    (elim c.then-x-rect.branch [
      | then-x-rect-via-then-x-rect w ↦ inl w.if-x-rect.true
      | then-x-rect-via-else-x-rect+then-gap-rect w ↦
          inr w.if-gap-rect.true
    ]))

pub returns-in-None : goal.returns-in-None
returns-in-None c =
    let rects = c.args.rects.now in
    let inv = c.loop-k.invariant in
    let k = c.loop-k.k in
    let within = c.loop-k-test.true in
    let end = (rect_at rects k).y1 + 1 in
    no_gap rects c.args.x c.args.y end (elim (cases_lt end 4294967296) [ inl lt ↦ absurd (c.in-None.ensures lt) | inr far ↦ far ])
    (filled_more rects c.args.x c.args.y c.loop-k.gap k inv.filled within c.if-x-rect.false
    (inv.ahead k (omega arith) within).0 c.if-gap-rect.false)

pub loop-k-preserved : goal.loop-k-preserved
loop-k-preserved c =
    let rects = c.args.rects.now in
    let inv = c.loop-k.invariant in
    let k = c.loop-k.k in
    let within = c.loop-k-test.true in
    let next = c.in-Some.ensures in
    let here = inv.ahead k (omega arith) within in
    let ends = here.1 c.if-x-rect.false in
    let more = filled_more rects c.args.x c.args.y c.loop-k.gap k inv.filled within c.if-x-rect.false here.0 c.if-gap-rect.false in
    record {
      fits = omega (arith, next.0, next.1);
      from = omega (arith, ends, inv.from, next.1);
      filled = λ v le lt. more v le (omega (arith, lt, next.1));
      behind = subst (λ n. EndBelow rects c.args.x n (k + 1)) (sym next.1)
          (below_more rects c.args.x c.loop-k.gap k inv.behind inv.ahead within c.if-x-rect.false);
      ahead = subst (λ n. EndFrom rects c.args.x n (k + 1)) (sym next.1)
          (from_more rects c.args.x c.loop-k.gap k c.requires.rects inv.ahead within c.if-x-rect.false);
    }
