use Rattle.std.proofs.Common.{◌+◌, subst}
use Rattle.arena_sets.proofs.Cutting.{AreBefore, least_from_zero, none_before, run_more, runs_done}
use Rattle.arena_sets.proofs.pieces.push_runs.Goals as goal

pub loop-next-init : goal.loop-next-init
loop-next-init g c =
    let points = g.P.PointSet.points c.args.set.now in (
      0,
      least_from_zero points c.first-next.result c.first-next.ensures,
      none_before c.args.rects.now.items points c.first-next.result c.first-next.ensures,
    )

pub loop-next-preserved : goal.loop-next-preserved
loop-next-preserved g c =
    let points = g.P.PointSet.points c.args.set.now in
    let old = c.args.rects.now.items in
    let now = c.loop-next.rects.items in
    let first = c.in-Some.first in
    let last = c.run_end-last.result in (
      last + 1,
      c.next_after-next.ensures,
      run_more old now c.push_run.new.rects.items points first last c.next_after-next.result (g.met.P.PointSet.ascends c.args.set.now)
          (subst (AreBefore old now points) c.in-Some.is c.loop-next.invariant.2) c.run_end-last.ensures c.next_after-next.ensures c.in_ok-push_run.ensures,
    )

pub returns : goal.returns
returns g c = runs_done c.args.rects.now.items c.loop-next.rects.items
    (g.P.PointSet.points c.args.set.now) c.loop-next.next c.loop-next.invariant.2 c.in_default.not-Some
