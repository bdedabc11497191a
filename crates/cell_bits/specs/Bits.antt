-- Which cells of a grid some points touch, as bits.
use Rattle.std.specs.Prelude.{◌≡◌, ℕ, ◌+◌, ◌*◌, ◌/◌, ◌%◌, ◌^◌, ◌<◌, ◌≤◌, ◌↔◌, Bool, true, false, List, Contains}
use Rattle.point_set.specs.declared.rect.Rect.{Rect}
use Rattle.point_set.specs.Rects.{Has, Holds}
use Rattle.grid.specs.Cuts.{Cuts, IsInSpan, span_count}
use Rattle.cell_bits.specs.declared.cells.CellBits.{CellBits}
use Rattle.cell_bits.specs.declared.cells.TheConstants.{MOST_CELLS}
use Rattle.bit_words.specs.Bits.{has_bit}

-- A point is in the cell of a number. Cells are numbered column by column.
pub record IsInCell (grid : Cuts) (n p : ℕ) : Type 0 where
  pub k : ℕ
  pub l : ℕ
  pub column : IsInSpan grid.xs k (p / 2 ^ 32)
  pub row : IsInSpan grid.ys l (p % 2 ^ 32)
  pub number : n ≡ k * span_count grid.ys + l

-- Some of the points are in the cell of a number.
abbrev pub TouchesCell : Cuts → List ℕ → ℕ → Type 0
TouchesCell grid points n = (p : ℕ) × IsInCell grid n p × Contains points p

-- A rectangle has points in the cell of a number.
abbrev pub TouchesRect : Cuts → Rect → ℕ → Type 0
TouchesRect grid r n = (p : ℕ) × IsInCell grid n p × Holds r (p / 2 ^ 32) (p % 2 ^ 32)

-- So does one of the rectangles before a place.
abbrev pub TouchesSome : Cuts → List Rect → ℕ → ℕ → Type 0
TouchesSome grid rects i n =
    (p : ℕ) × IsInCell grid n p × (h : Has rects (p / 2 ^ 32) (p % 2 ^ 32)) × (h.place < i)

-- A rectangle has points, and its ends lie in columns and rows of the grid.
pub record IsOnGrid (grid : Cuts) (r : Rect) : Type 0 where
  pub wide : r.x0 ≤ r.x1
  pub tall : r.y0 ≤ r.y1
  pub left : (k : ℕ) × IsInSpan grid.xs k r.x0
  pub right : (k : ℕ) × IsInSpan grid.xs k r.x1
  pub low : (l : ℕ) × IsInSpan grid.ys l r.y0
  pub high : (l : ℕ) × IsInSpan grid.ys l r.y1

-- The grid has no more cells than bits are kept for.
abbrev pub HasFew : Cuts → Type 0
HasFew grid = span_count grid.xs * span_count grid.ys ≤ MOST_CELLS

-- The number is that of a cell from one column up to another, and from one row to another.
pub record IsInBlock (rows left end low high n : ℕ) : Type 0 where
  pub k : ℕ
  pub l : ℕ
  pub from : left ≤ k
  pub to : k < end
  pub above : low ≤ l
  pub below : l ≤ high
  pub number : n ≡ k * rows + l

-- Whether the bit of a cell is set.
abbrev pub has_cell : CellBits → ℕ → Bool
has_cell bits n = has_bit bits.words.items n

-- Exactly the bits of the cells are set that the points touch.
abbrev pub AreBitsOf : Cuts → List ℕ → CellBits → Type 0
AreBitsOf grid points bits = (n : ℕ) → (has_cell bits n ≡ true) ↔ TouchesCell grid points n

-- The first have each bit of the second, or none of them.
abbrev pub HasAll : CellBits → CellBits → Type 0
HasAll theirs ours = (n : ℕ) → has_cell ours n ≡ true → has_cell theirs n ≡ true

abbrev pub HasNone : CellBits → CellBits → Type 0
HasNone theirs ours = (n : ℕ) → has_cell ours n ≡ true → has_cell theirs n ≡ false
