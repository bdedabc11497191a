-- The cells of a grid that have points of its rectangles.
use Rattle.std.specs.Prelude.{ℕ, ◌+◌, ◌*◌, ◌^◌, ◌&&◌, nat_le, Bool, List, Contains, map, filter, get_or}
use Rattle.std.specs.List.{flat_map, list_any, range_with_len}
use Rattle.point_set.specs.declared.rect.Rect.{Rect}
use Rattle.point_set.specs.Rects.{Holds}
use Rattle.grid.specs.Cuts.{Cuts, IsInSpan, grid_of, span_count}
use Rattle.covered_cells.specs.declared.grid_cell.GridCell.{GridCell}

-- Whether a rectangle has the point of a column and a row.
abbrev pub holds : ℕ → ℕ → Rect → Bool
holds x y r = (nat_le r.x0 x && nat_le x r.x1) && (nat_le r.y0 y && nat_le y r.y1)

-- A cell of a grid, with its first point.
abbrev pub cell_at : Cuts → ℕ → ℕ → GridCell
cell_at grid k l = record { column = k; row = l; first = get_or grid.xs k 0 * 2 ^ 32 + get_or grid.ys l 0 }

-- Whether some rectangle has the first point of a cell.
abbrev pub is_covered : List Rect → Cuts → ℕ → ℕ → Bool
is_covered rects grid k l = list_any (holds (get_or grid.xs k 0) (get_or grid.ys l 0)) rects

-- The columns of a grid, by their places.
abbrev pub columns_of : Cuts → List ℕ
columns_of grid = range_with_len 0 (span_count grid.xs)

-- The rows of a grid, by their places.
abbrev pub rows_of : Cuts → List ℕ
rows_of grid = range_with_len 0 (span_count grid.ys)

-- The cells of a column whose first points some rectangle has, row by row.
abbrev pub column_cells : List Rect → Cuts → ℕ → List GridCell
column_cells rects grid k = map (cell_at grid k) (filter (is_covered rects grid k) (rows_of grid))

-- The cells of the grid of rectangles whose first points some of them has, column by column.
abbrev pub cells_of : List Rect → List GridCell
cells_of rects = flat_map (column_cells rects (grid_of rects)) (columns_of (grid_of rects))

-- Some rectangle has a point of the cell, be it the first or another.
pub record HasPoint (rects : List Rect) (k l : ℕ) : Type 0 where
  pub rect : Rect
  pub listed : Contains rects rect
  pub x : ℕ
  pub y : ℕ
  pub in_column : IsInSpan (grid_of rects).xs k x
  pub in_row : IsInSpan (grid_of rects).ys l y
  pub holds : Holds rect x y
