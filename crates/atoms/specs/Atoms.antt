-- The cells of a log's grid that have points of its spaces.
use Rattle.std.specs.Prelude.{◌≡◌, ◌↔◌, ℕ, ◌+◌, ◌-◌, ◌*◌, ◌/◌, ◌%◌, ◌^◌, ◌<◌, true, List, length, map, get_or, AllPairs, Contains, Option, Some, None, slice_get, IsSomeAnd, MatchOption}
use Rattle.std.specs.List.{Any}
use Rattle.std.specs.List.Sorted.{IsStrictlyIncreasing}
use Rattle.point_set.specs.declared.rect.Rect.{Rect}
use Rattle.point_set.specs.Rects.{Holds}
use Rattle.grid.specs.Cuts.{AreCuts, Cuts, IsInSpan, grid_of}
use Rattle.covered_cells.specs.declared.grid_cell.GridCell.{GridCell}
use Rattle.covered_cells.specs.Covered.{cells_of}
use Rattle.vocabulary.specs.Prelude.{Tables, Space, is_in}
use Rattle.point_laws.specs.Alike.{AreAlike}

-- What the column and the row of a cell have in common.
abbrev pub cell_rect : Cuts → GridCell → Rect
cell_rect grid c = record {
  x0 = get_or grid.xs c.column 0;
  x1 = get_or grid.xs (c.column + 1) 0 - 1;
  y0 = get_or grid.ys c.row 0;
  y1 = get_or grid.ys (c.row + 1) 0 - 1;
}

-- The atoms of rectangles are the cells of their grid of which some rectangle has a point, column by column
-- and then row by row.
abbrev pub atoms_of : List Rect → List Rect
atoms_of rects = map (cell_rect (grid_of rects)) (cells_of rects)

-- The first point of each.
abbrev pub first_points : List Rect → List ℕ
first_points atoms = map (λ r. r.x0 * 2 ^ 32 + r.y0) atoms

-- A rectangle has the point.
abbrev pub HasPoint : Rect → ℕ → Type 0
HasPoint r p = Holds r (p / 2 ^ 32) (p % 2 ^ 32)

-- Some declared space has a point.
abbrev pub IsDeclared : Tables → ℕ → Type 0
IsDeclared t p = Any (λ (s : Space). is_in s.points p ≡ true) t.spaces

-- Rectangles have just the points of declared spaces, no two of them share one, and no space tells two points
-- of one apart.
pub record AreAtomsOf (t : Tables) (atoms : List Rect) : Type 0 where
  pub points : (p : ℕ) → Any (λ r. HasPoint r p) atoms ↔ IsDeclared t p
  pub apart : AllPairs (λ r s. (p : ℕ) → HasPoint r p → ¬ HasPoint s p) atoms
  pub alike : (r : Rect) → Contains atoms r → (p q : ℕ) → HasPoint r p → HasPoint r q → AreAlike t p q

-- The place of the atom that has a point: none exactly where no atom has it.
abbrev pub IsAtomAt : List Rect → ℕ → Option ℕ → Type 0
IsAtomAt atoms p (Some k) = IsSomeAnd (slice_get atoms k) (λ r. HasPoint r p)
IsAtomAt atoms p None = ¬ Any (λ r. HasPoint r p) atoms

-- A point in a column and a row of a grid.
pub record IsIn (grid : Cuts) (k l p : ℕ) : Type 0 where
  pub column : IsInSpan grid.xs k (p / 2 ^ 32)
  pub row : IsInSpan grid.ys l (p % 2 ^ 32)

-- The cell of a grid that has a point: none exactly where no column and row have it.
abbrev pub IsCellOf : Cuts → ℕ → Option GridCell → Type 0
IsCellOf grid p o = MatchOption o ((k l : ℕ) → ¬ IsIn grid k l p)
    (λ c. IsIn grid c.column c.row p × (c.first ≡ get_or grid.xs c.column 0 * 2 ^ 32 + get_or grid.ys c.row 0))

-- The place of a number in a list: none exactly where it is not listed.
abbrev pub IsPlaceOf : List ℕ → ℕ → Option ℕ → Type 0
IsPlaceOf ns n o = MatchOption o (¬ Contains ns n) (λ k. (k < length ns) × (get_or ns k 0 ≡ n))

-- What is kept of some rectangles: their grid, its cells that have points, and the first points of these.
pub record AreKept (grid : Cuts) (cells : List GridCell) (firsts : List ℕ) : Type 0 where
  pub rects : List Rect
  pub grid_is : grid ≡ grid_of rects
  pub rows : AreCuts grid.ys
  pub cells_are : cells ≡ cells_of rects
  pub firsts_are : firsts ≡ map (λ c. c.first) cells
  pub ascend : IsStrictlyIncreasing firsts
