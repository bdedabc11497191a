use Rattle.std.proofs.Common.{ℕ, ◌^◌, ◌<◌, take}
use Rattle.point_set.specs.Rects.{rect_at}
use Rattle.covered_cells.specs.Marks.{AreMarksOf}
use Rattle.covered_cells.proofs.marks.unsorted_marks.Given as goal

abbrev pub invariant-loop-rect : goal.invariant-loop-rect
invariant-loop-rect l = record {
  marks : AreMarksOf l.grid (take l.rect-index l.rects) l.marks.plus.items l.marks.minus.items;
  small : (k : ℕ) → k < l.rect-index → (((rect_at l.rects k).x0 < 2 ^ 32) × ((rect_at l.rects k).x1 < 2 ^ 32))
      × (((rect_at l.rects k).y0 < 2 ^ 32) × ((rect_at l.rects k).y1 < 2 ^ 32));
}
