-- What rectangles leave free.
use Rattle.std.specs.Prelude.{ℕ, ◌+◌, ◌-◌, ◌^◌, ◌<◌, ◌≤◌, ◌⊎◌, ◌&&◌, ◌++◌, nat_lt, cond, List, [], ◌∷◌, Contains}
use Rattle.point_set.specs.declared.rect.Rect.{Rect}
use Rattle.point_set.specs.Rects.{Holds}
use Rattle.plane_gaps.specs.declared.gaps.Edge.{Edge}

-- Some rectangle has the point of this column and row.
abbrev pub HasPoint : List Rect → ℕ → ℕ → Type 0
HasPoint rects x y = (r : Rect) × Contains rects r × Holds r x y

-- A rectangle with a point, whose numbers are `u32`.
pub record IsRect (r : Rect) : Type 0 where
  pub wide : r.x0 ≤ r.x1
  pub tall : r.y0 ≤ r.y1
  pub x_fits : r.x1 < 2 ^ 32
  pub y_fits : r.y1 < 2 ^ 32

-- The gaps have just the points of the plane that the rectangles have not.
pub record LeaveFree (rects gaps : List Rect) : Type 0 where
  pub are : (r : Rect) → Contains gaps r → IsRect r
  pub apart : (x y : ℕ) → HasPoint gaps x y → ¬ HasPoint rects x y
  pub all : (x y : ℕ) → x < 2 ^ 32 → y < 2 ^ 32 → HasPoint gaps x y ⊎ HasPoint rects x y

-- The columns from `x0` on and before `x1`, in the rows from `y0` on and before `y1`, if there are some.
abbrev pub box_of : ℕ → ℕ → ℕ → ℕ → List Rect
box_of x0 x1 y0 y1 = cond (nat_lt x0 x1 && nat_lt y0 y1)
    (record { x0 = x0; x1 = x1 - 1; y0 = y0; y1 = y1 - 1 } ∷ []) []

-- What lies between an edge and the next rectangle: rows of its columns,
-- or what is left of the columns before, the columns between, and the rows below it.
abbrev pub next_boxes : Edge → Rect → List Rect
next_boxes e r = cond (nat_lt r.x0 e.x1) (box_of r.x0 (r.x1 + 1) e.y r.y0)
    (box_of e.x0 e.x1 e.y (2 ^ 32) ++ box_of e.x1 r.x0 0 (2 ^ 32) ++ box_of r.x0 (r.x1 + 1) 0 r.y0)

-- What lies behind an edge.
abbrev pub end_boxes : Edge → List Rect
end_boxes e = box_of e.x0 e.x1 e.y (2 ^ 32) ++ box_of e.x1 (2 ^ 32) 0 (2 ^ 32)
