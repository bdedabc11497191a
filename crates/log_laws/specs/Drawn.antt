-- Spaces as rectangles, from which the grid of a log is made.
use Rattle.std.specs.Prelude.{◌≡◌, ℕ, ◌+◌, ◌*◌, ◌^◌, ◌≤◌, List, All, Contains}
use Rattle.std.specs.List.{Any}
use Rattle.point_set.specs.Rects.{AreRects, Holds, rect_points}
use Rattle.vocabulary.specs.Prelude.{Rect, Space, Tables}

-- The points are those of rectangles in order, which are all among these.
pub record IsDrawnIn (rects : List Rect) (points : List ℕ) : Type 0 where
  pub parts : List Rect
  pub are : AreRects parts
  pub listed : (r : Rect) → Contains parts r → Contains rects r
  pub same : points ≡ rect_points parts

-- All points of a rectangle are among these.
abbrev pub HasAllOf : Rect → List ℕ → Type 0
HasAllOf r points = (x y : ℕ) → Holds r x y → Contains points (x * 2 ^ 32 + y)

-- Each rectangle of the log has a point and is within a space, and each space is of some of them.
pub record AreDrawn (t : Tables) : Type 0 where
  pub some : All (λ r. (r.x0 ≤ r.x1) × (r.y0 ≤ r.y1)) t.rects
  pub spaces : (s : Space) → Contains t.spaces s → IsDrawnIn t.rects s.points
  pub within : (r : Rect) → Contains t.rects r → Any (λ (s : Space). HasAllOf r s.points) t.spaces
