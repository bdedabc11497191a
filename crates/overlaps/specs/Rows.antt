-- Rectangles of two lists that share rows.
use Rattle.std.specs.Prelude.{◌≡◌, ℕ, ◌+◌, ◌<◌, ◌≤◌, ◌⊎◌, max, nat_lt, List, All, Contains, length, if◌then◌else◌}
use Rattle.point_set.specs.declared.rect.Rect.{Rect}
use Rattle.point_set.specs.Rects.{rect_at}
use Rattle.overlaps.specs.declared.rows.Reached.{Reached}

-- Each rectangle has a row.
abbrev pub AreTall : List Rect → Type 0
AreTall rects = All (λ r. r.y0 ≤ r.y1) rects

-- The place of a rectangle that ends highest, where the next one ends at this row.
abbrev pub place_with : Reached → ℕ → ℕ
place_with reached end = if nat_lt reached.end end then reached.count else reached.place

-- The first rectangles begin up to a row, this is the row above all of them, and this the place of one that
-- ends there.
pub record IsReached (rects : List Rect) (reached : Reached) (row : ℕ) : Type 0 where
  pub within : reached.count ≤ length rects
  pub begin : (k : ℕ) → k < reached.count → (rect_at rects k).y0 ≤ row
  pub below : (k : ℕ) → k < reached.count → (rect_at rects k).y1 < reached.end
  pub some : (reached.end ≡ 0)
      ⊎ ((reached.place < reached.count) × ((rect_at rects reached.place).y1 + 1 ≡ reached.end))

-- The rectangles from this place on begin above the row.
abbrev pub IsPast : List Rect → ℕ → ℕ → Type 0
IsPast rects count row = (k : ℕ) → count ≤ k → k < length rects → row < (rect_at rects k).y0

-- None of the second rectangles begins in a row of one of the first.
abbrev pub NoneBeginsIn : List Rect → List Rect → Type 0
NoneBeginsIn rects others = (r s : Rect) → Contains rects r → Contains others s → r.y0 ≤ s.y0 → r.y1 < s.y0

-- No rectangle of the one list shares a row with one of the other.
abbrev pub RowsApart : List Rect → List Rect → Type 0
RowsApart ours theirs = (r s : Rect) → Contains ours r → Contains theirs s → (r.y1 < s.y0) ⊎ (s.y1 < r.y0)

-- One of the second rectangles begins in a row of one of the first.
pub record BeginsIn (rects others : List Rect) (r s : Rect) : Type 0 where
  pub first : Contains rects r
  pub second : Contains others s
  pub low : r.y0 ≤ s.y0
  pub high : s.y0 ≤ r.y1

-- A rectangle of the one list shares a row with one of the other: the first row of the higher one.
pub record ShareRow (ours theirs : List Rect) (r s : Rect) : Type 0 where
  pub first : Contains ours r
  pub second : Contains theirs s
  pub our : max r.y0 s.y0 ≤ r.y1
  pub their : max r.y0 s.y0 ≤ s.y1
