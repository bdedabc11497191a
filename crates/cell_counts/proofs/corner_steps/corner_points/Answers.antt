use Rattle.std.proofs.Common.{ℕ, ◌<◌, Option, Some, None, IfSome, subst}
use Rattle.cell_counts.proofs.CornersSoFar.{AreSoFar, IsBefore, at_first, one_more, at_end}
use Rattle.cell_counts.proofs.corner_steps.corner_points.Goals as goal

pub loop-next-init : goal.loop-next-init
loop-next-init g c = λ all is. rw c.new-corners.ensures.items (at_first all (g.P.PointSet.points c.args.set.now) c.first-next.result c.first-next.ensures)

pub loop-next-preserved : goal.loop-next-preserved
loop-next-preserved g c = λ all is.
    let points = g.P.PointSet.points c.args.set.now in
    let so = subst (AreSoFar all points c.loop-next.corners.items) c.in-Some.is (c.loop-next.invariant all is) in
    let after = c.point_after-next.ensures in
    one_more all points c.loop-next.corners.items c.push_if_begins.new.corners.items c.in-Some.p c.point_after-next.result so
    (is_before c.in-Some.p c.point_after-next.result after.above) (after.next all is) (c.in_ok-push_if_begins.ensures all is)
  where
    is_before : (p : ℕ) (next : Option ℕ) → IfSome next (λ q. p < q) → IsBefore next p
    is_before p None h = tt
    is_before p (Some n) h = h

pub returns : goal.returns
returns g c = λ all is.
    let points = g.P.PointSet.points c.args.set.now in
    at_end all points c.loop-next.corners.items (g.met.P.PointSet.ascends c.args.set.now)
    (subst (AreSoFar all points c.loop-next.corners.items) c.in_default.is (c.loop-next.invariant all is))
