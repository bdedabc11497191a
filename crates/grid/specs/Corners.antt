-- The points at which the cells of a grid begin, and how many cells there are.
use Rattle.std.specs.Prelude.{ℕ, ◌*◌, ◌/◌, ◌%◌, ◌^◌, ◌==◌, ◌&&◌, Bool, List, filter}
use Rattle.std.specs.List.{list_any}
use Rattle.point_set.specs.declared.rect.Rect.{Rect}
use Rattle.grid.specs.Cuts.{grid_of, span_count, x_ends, y_ends}

-- How many cells the grid of rectangles has: columns times rows.
abbrev pub cell_count : List Rect → ℕ
cell_count rects = span_count (grid_of rects).xs * span_count (grid_of rects).ys

-- Whether a point is the first of its cell: some rectangle begins in its column, or ends in the column
-- before, and the same holds of its row.
abbrev pub is_corner : List Rect → ℕ → Bool
is_corner rects p =
    list_any (λ n. n == p / 2 ^ 32) (x_ends rects) && list_any (λ n. n == p % 2 ^ 32) (y_ends rects)

-- The points among these at which a cell begins.
abbrev pub corners_in : List Rect → List ℕ → List ℕ
corners_in rects points = filter (is_corner rects) points
