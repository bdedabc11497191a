-- Blocks of cells, and how many of them have a cell, told by marks at their corners.
use Rattle.std.specs.Prelude.{◌≡◌, ℕ, ◌+◌, ◌-◌, ◌^◌, ◌<◌, ◌≤◌, ◌&&◌, ◌==◌, nat_le, nat_lt, zero, suc, Bool, true, false, List, [], ◌∷◌, All, length, get_or, map, filter, take}
use Rattle.std.specs.List.{AllZip, flat_map, range_with_len}
use Rattle.std.specs.List.Sorted.{IsPermutation}
use Rattle.point_set.specs.declared.rect.Rect.{Rect}
use Rattle.grid.specs.Cuts.{Cuts, IsInSpan, span_count}
use Rattle.covered_cells.specs.declared.blocks.Block.{Block}
use Rattle.covered_cells.specs.declared.grid_cell.GridCell.{GridCell}
use Rattle.covered_cells.specs.declared.marks.Mark.{Mark}
use Rattle.covered_cells.specs.Covered.{cell_at}

-- One where the answer is true, and else zero.
abbrev pub one_if : Bool → ℕ
one_if true = 1
one_if false = 0

-- How many elements pass a test.
abbrev pub times : {X : Type 0} → (X → Bool) → List X → ℕ
times p [] = 0
times p (x ∷ xs) = one_if (p x) + times p xs

-- Whether a block has the cell of a column and a row.
abbrev pub has_cell : ℕ → ℕ → Block → Bool
has_cell k l b = (nat_le b.column k && nat_lt k b.column_end) && (nat_le b.row l && nat_lt l b.row_end)

-- Each block ends where it begins, or behind.
abbrev pub AreBlocks : List Block → Type 0
AreBlocks blocks = All (λ b. (b.column ≤ b.column_end) × (b.row ≤ b.row_end)) blocks

-- Some column, or row, has the number.
abbrev pub IsInSome : List ℕ → ℕ → Type 0
IsInSome ns n = (k : ℕ) × IsInSpan ns k n

-- Columns and rows of the grid have the corners of the rectangle.
pub record IsWithin (grid : Cuts) (r : Rect) : Type 0 where
  pub left : IsInSome grid.xs r.x0
  pub right : IsInSome grid.xs r.x1
  pub low : IsInSome grid.ys r.y0
  pub high : IsInSome grid.ys r.y1

-- It is the place behind the column, or the row, that has the number.
abbrev pub IsBehind : List ℕ → ℕ → ℕ → Type 0
IsBehind ns n e = (0 < e) × IsInSpan ns (e - 1) n

-- The block has the cells of the rectangle.
pub record HasCellsOf (grid : Cuts) (r : Rect) (b : Block) : Type 0 where
  pub left : IsInSpan grid.xs b.column r.x0
  pub right : IsBehind grid.xs r.x1 b.column_end
  pub low : IsInSpan grid.ys b.row r.y0
  pub high : IsBehind grid.ys r.y1 b.row_end

-- Whether a rectangle has a point.
abbrev pub has_point : Rect → Bool
has_point r = nat_le r.x0 r.x1 && nat_le r.y0 r.y1

-- A block that has no cell.
abbrev pub no_block : Block
no_block = record { column = 0; column_end = 0; row = 0; row_end = 0 }

-- The block has the cells of the rectangle, and none if that has no point.
abbrev pub IsBlockOf : Cuts → Rect → Block → Type 0
IsBlockOf grid r b = (has_point r ≡ true → HasCellsOf grid r b) × (has_point r ≡ false → b ≡ no_block)

-- The ends of the rectangles are numbers of 32 bits.
abbrev pub HaveSmallEnds : List Rect → Type 0
HaveSmallEnds rects = All (λ r. ((r.x0 < 2 ^ 32) × (r.x1 < 2 ^ 32)) × ((r.y0 < 2 ^ 32) × (r.y1 < 2 ^ 32))) rects

-- Each rectangle has its block, in the same order.
abbrev pub AreBlocksOf : Cuts → List Rect → List Block → Type 0
AreBlocksOf grid rects blocks = AllZip (IsBlockOf grid) rects blocks

-- The marks that count for a block stand at its first cell, and behind its last in both ways.
abbrev pub plus_of : Block → List Mark
plus_of b = record { column = b.column; row = b.row } ∷ record { column = b.column_end; row = b.row_end } ∷ []

-- Those that count against it stand behind its last column or behind its last row.
abbrev pub minus_of : Block → List Mark
minus_of b =
    record { column = b.column; row = b.row_end } ∷ record { column = b.column_end; row = b.row } ∷ []

-- The marks that count for blocks, block by block.
abbrev pub plus_marks : List Block → List Mark
plus_marks blocks = flat_map plus_of blocks

-- The marks that count against blocks, block by block.
abbrev pub minus_marks : List Block → List Mark
minus_marks blocks = flat_map minus_of blocks

-- In some order, the marks are those of the blocks of the rectangles.
pub record AreMarksOf (grid : Cuts) (rects : List Rect) (for against : List Mark) : Type 0 where
  pub made : List Block
  pub are : AreBlocksOf grid rects made
  pub plus : IsPermutation (plus_marks made) for
  pub minus : IsPermutation (minus_marks made) against

-- Whether a mark stands in a column up to this one, and in this row.
abbrev pub is_in_row : ℕ → ℕ → Mark → Bool
is_in_row k l m = nat_le m.column k && (m.row == l)

-- Whether it stands in a column up to this one, and in a row up to this one.
abbrev pub is_below : ℕ → ℕ → Mark → Bool
is_below k l m = nat_le m.column k && nat_le m.row l

-- How many marks stand in columns up to this one, and in rows before this one.
abbrev pub count_before : ℕ → ℕ → List Mark → ℕ
count_before k zero marks = 0
count_before k (suc l) marks = times (is_below k l) marks

-- The mark at a place.
abbrev pub mark_at : List Mark → ℕ → Mark
mark_at marks j = get_or marks j (record { column = 0; row = 0 })

-- Each row's counter says how many of the marks before a place stand in the row.
abbrev pub AreCounted : List Mark → ℕ → List ℕ → Type 0
AreCounted marks n counts =
    (l : ℕ) → l < length counts → get_or counts l 0 ≡ times (λ m. m.row == l) (take n marks)

-- Each row's counter says how many of the marks in columns up to this one stand in the row.
abbrev pub AreInRows : ℕ → List Mark → List ℕ → Type 0
AreInRows k marks counts = (l : ℕ) → l < length counts → get_or counts l 0 ≡ times (is_in_row k l) marks

-- The marks before a place stand in columns before this one.
abbrev pub StandBefore : List Mark → ℕ → ℕ → Type 0
StandBefore marks n k = (j : ℕ) → j < n → j < length marks → (mark_at marks j).column < k

-- Whether some block has the cell.
abbrev pub is_in_blocks : List Block → ℕ → ℕ → Bool
is_in_blocks blocks k l = nat_lt 0 (times (has_cell k l) blocks)

-- The cells of a column, in rows below this one, that some block has.
abbrev pub cells_below : Cuts → List Block → ℕ → ℕ → List GridCell
cells_below grid blocks k n = map (cell_at grid k) (filter (is_in_blocks blocks k) (range_with_len 0 n))

-- The cells in columns before this one that some block has, column by column.
abbrev pub cells_before : Cuts → List Block → ℕ → List GridCell
cells_before grid blocks n =
    flat_map (λ k. cells_below grid blocks k (span_count grid.ys)) (range_with_len 0 n)
