-- Rectangles whose points are runs.
use Rattle.std.specs.Prelude.{◌≡◌, ℕ, ◌+◌, ◌*◌, ◌^◌, ◌<◌, ◌≤◌, List, ◌++◌, All, Contains, map}
use Rattle.point_set.specs.declared.rect.Rect.{Rect}
use Rattle.point_set.specs.Rects.{AreRects, rect_points}
use Rattle.point_set.specs.Runs.{points_of}

-- The first and the last point of a rectangle.
abbrev pub ends : Rect → ℕ × ℕ
ends r = (r.x0 * 2 ^ 32 + r.y0, r.x1 * 2 ^ 32 + r.y1)

-- The points of a rectangle are one run: it lies in one column, or has all rows.
pub record IsPiece (r : Rect) : Type 0 where
  pub wide : r.x0 ≤ r.x1
  pub tall : r.y0 ≤ r.y1
  pub x_fits : r.x1 < 2 ^ 32
  pub y_fits : r.y1 < 2 ^ 32
  pub full : r.x0 < r.x1 → (r.y0 ≡ 0) × (r.y1 + 1 ≡ 2 ^ 32)

-- Rectangles, each a run of points, that have these points one after the other.
pub record ArePieces (points : List ℕ) (rects : List Rect) : Type 0 where
  pub pieces : All IsPiece rects
  pub joined : points_of (map ends rects) ≡ points

-- The new rectangles are the old ones, and then some with a property.
abbrev pub Adds : List Rect → List Rect → (List Rect → Type 0) → Type 0
Adds old new P = (added : List Rect) × (new ≡ old ++ added) × P added

-- Rectangles of a set that has just these points.
abbrev pub AreRectsOf : List ℕ → List Rect → Type 0
AreRectsOf points rects = AreRects rects × (rect_points rects ≡ points)

-- The numbers from the first to the last are points.
abbrev pub IsFilled : List ℕ → ℕ → ℕ → Type 0
IsFilled points first last = (first ≤ last) × ((p : ℕ) → first ≤ p → p ≤ last → Contains points p)
