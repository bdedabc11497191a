use Rattle.std.proofs.Common.{◌≡◌, ℕ, ◌*◌, ◌^◌, ◌<◌, ◌≤◌, take}
use Rattle.std.specs.List.{sum_by}
use Rattle.point_set.specs.Rects.{rect_at}
use Rattle.cell_counts.proofs.Counted.{begin_in}
use Rattle.cell_counts.proofs.corners.corner_count.Given as goal

abbrev pub invariant-loop-rect : goal.invariant-loop-rect
invariant-loop-rect l = record {
  counted : l.count ≡ sum_by (begin_in l.grid) (take l.rect-index l.rects);
  few : l.count ≤ l.rect-index * 2 ^ 64;
  small : (k : ℕ) → k < l.rect-index → ((rect_at l.rects k).x1 < 2 ^ 32) × ((rect_at l.rects k).y1 < 2 ^ 32);
}
