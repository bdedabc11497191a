use Rattle.std.proofs.Common.{ℕ, ◌<◌, ◌≤◌, length}
use Rattle.point_set.specs.Rects.{rect_at}
use Rattle.region_tree.proofs.wholes.last_column.Given as goal

abbrev pub invariant-loop-rect : goal.invariant-loop-rect
invariant-loop-rect l = (j : ℕ) → j < l.rect-index → j < length l.rects → (rect_at l.rects j).x1 ≤ l.last
