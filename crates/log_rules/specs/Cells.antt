-- The cells of a grid, of which a space has all points or none.
use Rattle.std.specs.Prelude.{◌≡◌, ℕ, ◌/◌, ◌%◌, ◌^◌, true, List, Option, MatchOption, ⊤}
use Rattle.point_set.specs.declared.rect.Rect.{Rect}
use Rattle.grid.specs.Cuts.{IsInSpan, grid_of}
use Rattle.vocabulary.specs.Prelude.{Tables, is_in, points_in}

-- A point is in a cell of the grid of rectangles.
pub record InCell (rects : List Rect) (k l p : ℕ) : Type 0 where
  pub column : IsInSpan (grid_of rects).xs k (p / 2 ^ 32)
  pub row : IsInSpan (grid_of rects).ys l (p % 2 ^ 32)

-- Some cell has a point.
abbrev pub Cell : List Rect → ℕ → Type 0
Cell rects p = (k : ℕ) × (l : ℕ) × InCell rects k l p

-- Points are whole cells: each is in a cell, and of a cell all points are there or none.
pub record AreCells (rects : List Rect) (points : List ℕ) : Type 0 where
  pub cell : (p : ℕ) → is_in points p ≡ true → Cell rects p
  pub whole : (k l p q : ℕ) → InCell rects k l p → InCell rects k l q → is_in points p ≡ is_in points q

-- Where the rectangles of a log are given, each space is of whole cells of their grid.
abbrev pub HasCells : Option (List Rect) → Tables → Type 0
HasCells all t = MatchOption all ⊤ (λ rects. (id : ℕ) → AreCells rects (points_in t id))
