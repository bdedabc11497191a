-- A cell is listed where some rectangle has a point of it.
use Rattle.std.proofs.Common.{◌≡◌, ◌↔◌, ℕ, zero, suc, ◌+◌, ◌<◌, ◌&&◌, nat_le, true, List, [], ◌∷◌, All, Contains, length, get_or, filter, refl, sym, ap, ◌∙◌, subst, arith}
use Rattle.std.specs.List.{range_with_len}
use Rattle.std.proofs.lemmas.Bool.{and_from, and_parts, le-leb, leb-true}
use Rattle.std.proofs.lemmas.List.Elements.{Contains-get_or}
use Rattle.std.proofs.lemmas.List.Folds.{Any-from_list_any, list_any_at}
use Rattle.point_set.specs.declared.rect.Rect.{Rect}
use Rattle.point_set.specs.Rects.{Holds}
use Rattle.grid.specs.Cuts.{IsInSpan, cuts, grid_of, span_count, x_ends, y_ends}
use Rattle.grid.proofs.lemmas.Cutting.{cuts_ascend, undivided}
use Rattle.covered_cells.specs.declared.grid_cell.GridCell.{GridCell}
use Rattle.covered_cells.specs.Covered.{HasPoint, cell_at, cells_of, column_cells, holds, is_covered}
use Rattle.list_lemmas.proofs.lemmas.Contained.{member_flat, flat_member, member_map, map_member}
use Rattle.list_lemmas.proofs.lemmas.Filtered.{of_filter, in_filter}
use Rattle.list_lemmas.proofs.lemmas.Ranges.{number_within, number_in}

-- ---- A point of a rectangle.

holds_from : (x y : ℕ) (r : Rect) → holds x y r ≡ true → Holds r x y
holds_from x y r h =
    let parts = and_parts (nat_le r.x0 x && nat_le x r.x1) (nat_le r.y0 y && nat_le y r.y1) h in
    let columns = and_parts (nat_le r.x0 x) (nat_le x r.x1) parts.0 in
    let rows = and_parts (nat_le r.y0 y) (nat_le y r.y1) parts.1 in
    record { left = leb-true _ _ columns.0; right = leb-true _ _ columns.1; low = leb-true _ _ rows.0; high = leb-true _ _ rows.1 }

holds_to : (x y : ℕ) (r : Rect) → Holds r x y → holds x y r ≡ true
holds_to x y r h =
    and_from (nat_le r.x0 x && nat_le x r.x1) (nat_le r.y0 y && nat_le y r.y1)
    (and_from (nat_le r.x0 x) (nat_le x r.x1) (le-leb _ _ h.left) (le-leb _ _ h.right))
    (and_from (nat_le r.y0 y) (nat_le y r.y1) (le-leb _ _ h.low) (le-leb _ _ h.high))

-- a span has its cut
has_cut : (ns : List ℕ) (k : ℕ) → k < span_count (cuts ns) → IsInSpan (cuts ns) k (get_or (cuts ns) k 0)
has_cut ns k lt = let more : k + 1 < length (cuts ns) = omega (arith, lt) in (more, omega arith, cuts_ascend ns k more)

-- ---- Cells that are listed.

pub record Listed (rects : List Rect) (c : GridCell) : Type 0 where
  pub column : ℕ
  pub row : ℕ
  pub is : cell_at (grid_of rects) column row ≡ c
  pub column_within : column < span_count (grid_of rects).xs
  pub row_within : row < span_count (grid_of rects).ys
  pub covered : is_covered rects (grid_of rects) column row ≡ true

pub listed : (rects : List Rect) (c : GridCell) → Contains (cells_of rects) c → Listed rects c
listed rects c h =
    let rows = range_with_len 0 (span_count (grid_of rects).ys) in
    let column = member_flat (column_cells rects (grid_of rects)) (range_with_len 0 (span_count (grid_of rects).xs)) c h in
    let row = member_map (cell_at (grid_of rects) column.0) (filter (is_covered rects (grid_of rects) column.0) rows) c column.2 in
    let kept = of_filter (is_covered rects (grid_of rects) column.0) rows row.0 row.1 in
    record {
      column = column.0;
      row = row.0;
      is = sym row.2;
      column_within = number_within _ _ column.1;
      row_within = number_within _ _ kept.0;
      covered = kept.1;
    }

are_listed : (rects : List Rect) (k l : ℕ) → k < span_count (grid_of rects).xs → l < span_count (grid_of rects).ys
    → is_covered rects (grid_of rects) k l ≡ true → Contains (cells_of rects) (cell_at (grid_of rects) k l)
are_listed rects k l k_lt l_lt covered =
    let columns = range_with_len 0 (span_count (grid_of rects).xs) in
    let rows = range_with_len 0 (span_count (grid_of rects).ys) in
    let kept = in_filter (is_covered rects (grid_of rects) k) rows l (number_in _ l l_lt) covered in
    flat_member (column_cells rects (grid_of rects)) columns k (cell_at (grid_of rects) k l) (number_in _ k k_lt)
    (map_member (cell_at (grid_of rects) k) (filter (is_covered rects (grid_of rects) k) rows) l kept)

-- a cell whose first point some rectangle has
has_first : (rects : List Rect) (k l : ℕ) → k < span_count (grid_of rects).xs → l < span_count (grid_of rects).ys
    → is_covered rects (grid_of rects) k l ≡ true → HasPoint rects k l
has_first rects k l k_lt l_lt covered =
    let some = Any-from_list_any (holds (get_or (cuts (x_ends rects)) k 0) (get_or (cuts (y_ends rects)) l 0)) rects covered in
    record {
      rect = some.1;
      listed = (some.0, some.2, some.3);
      x = get_or (cuts (x_ends rects)) k 0;
      y = get_or (cuts (y_ends rects)) l 0;
      in_column = has_cut (x_ends rects) k k_lt;
      in_row = has_cut (y_ends rects) l l_lt;
      holds = holds_from _ _ some.1 some.4;
    }

-- a rectangle that has a point of a cell has the first
covers_first : (rects : List Rect) (k l : ℕ) → HasPoint rects k l → Contains (cells_of rects) (cell_at (grid_of rects) k l)
covers_first rects k l h =
    let xs = cuts (x_ends rects) in
    let ys = cuts (y_ends rects) in
    let k_lt : k < span_count (cuts (x_ends rects)) = omega (arith, h.in_column.0) in
    let l_lt : l < span_count (cuts (y_ends rects)) = omega (arith, h.in_row.0) in
    let alike = undivided rects h.rect k l h.x h.y (get_or xs k 0) (get_or ys l 0) h.listed
    h.in_column (has_cut (x_ends rects) k k_lt) h.in_row (has_cut (y_ends rects) l l_lt) in
    let there = holds_to _ _ h.rect (alike.0 h.holds) in
    are_listed rects k l k_lt l_lt
    (list_any_at (holds (get_or xs k 0) (get_or ys l 0)) rects h.listed.0 h.rect h.listed.1
    (ap (holds (get_or xs k 0) (get_or ys l 0)) h.listed.2 ∙ there))

pub listed_where_some : (rects : List Rect) (k l : ℕ) → Contains (cells_of rects) (cell_at (grid_of rects) k l) ↔ HasPoint rects k l
listed_where_some rects k l = (
  λ h.
      let is = listed rects (cell_at (grid_of rects) k l) h in
      let e : is.column ≡ k = ap (λ (c : GridCell). c.column) is.is in
      let f : is.row ≡ l = ap (λ (c : GridCell). c.row) is.is in
      let point = has_first rects is.column is.row is.column_within is.row_within is.covered in
      subst (λ i. HasPoint rects i l) e (subst (HasPoint rects is.column) f point),
  covers_first rects k l,
)

pub are_cells : (rects : List Rect) → All (λ (c : GridCell). c ≡ cell_at (grid_of rects) c.column c.row) (cells_of rects)
are_cells rects i d lt =
    let is = listed rects (get_or (cells_of rects) i d) (Contains-get_or (cells_of rects) i d lt) in
    subst (λ (c : GridCell). c ≡ cell_at (grid_of rects) c.column c.row) is.is refl
