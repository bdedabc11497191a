-- Rectangles that go on from one another.
use Rattle.std.specs.Prelude.{◌≡◌, ◌+◌, List, ◌++◌}
use Rattle.point_set.specs.declared.rect.Rect.{Rect}
use Rattle.point_set.specs.Rects.{AreBanded, rect_points}

-- The second rectangle has the same columns, and begins in the row after the last one of the first.
abbrev pub GoesOn : Rect → Rect → Type 0
GoesOn r s = (r.x0 ≡ s.x0) × (r.x1 ≡ s.x1) × (s.y0 ≡ r.y1 + 1)

-- Behind whatever comes before them, the new rectangles have the points of the old ones, in bands as these.
abbrev pub StandFor : List Rect → List Rect → Type 0
StandFor old new = (before : List Rect) → AreBanded (before ++ old)
    → AreBanded (before ++ new) × (rect_points (before ++ new) ≡ rect_points (before ++ old))
