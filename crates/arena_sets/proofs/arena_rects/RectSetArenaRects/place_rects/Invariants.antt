use Rattle.std.proofs.Common.{◌≡◌, ◌++◌, length}
use Rattle.point_set.specs.Rects.{AreBanded, rect_points}
use Rattle.arena_sets.proofs.arena_rects.RectSetArenaRects.place_rects.Given as goal

abbrev pub invariant-loop-rect : goal.invariant-loop-rect
invariant-loop-rect l = record {
  banded : AreBanded (l.joined.items ++ l.rest);
  points : rect_points (l.joined.items ++ l.rest) ≡ rect_points l.rects;
}

abbrev pub decreases-loop-rect : goal.decreases-loop-rect
decreases-loop-rect l = length l.rest
