use Rattle.std.proofs.Common.{◌≡◌, true, false, subst, sym, ◌∙◌, ap}
use Rattle.point_set.specs.Rects.{AreBanded, rect_points}
use Rattle.arena_sets.proofs.Cutting.{list_more, list_done}
use Rattle.arena_sets.proofs.arena_set.RectSetArenaSet.place.Goals as goal

pub loop-run-preserved : goal.loop-run-preserved
loop-run-preserved c = list_more c.args.runs.now c.loop-run.run-index (
  0,
  0,
) c.loop-run.rects.items c.push_run.new.rects.items c.loop-run-test.true c.loop-run.invariant c.in_ok-push_run.ensures

pub unreachable-requires : goal.unreachable-requires
unreachable-requires c =
    let done = list_done c.args.runs.now c.loop-run.run-index c.loop-run.rects.items c.requires c.loop-run-test.false c.loop-run.invariant in
    let no : false ≡ true = c.in-None.ensures.banded.1 (subst AreBanded (sym c.into_bump_slice.ensures) done.0.0) in
    cc

pub returns : goal.returns
returns c =
    let done = list_done c.args.runs.now c.loop-run.run-index c.loop-run.rects.items c.requires c.loop-run-test.false c.loop-run.invariant in
    c.in-Some.ensures.points ∙ ap rect_points c.into_bump_slice.ensures ∙ done.1
