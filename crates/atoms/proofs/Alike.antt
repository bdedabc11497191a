-- All points of a cell are alike, and each declared point is of a listed one.
use Rattle.std.proofs.Common.{◌≡◌, ℕ, ◌+◌, ◌*◌, ◌/◌, ◌%◌, ◌^◌, ◌<◌, ◌≤◌, true, List, map, Contains, get_or, sym, subst, arith}
use Rattle.std.specs.Cmp.{both_ways}
use Rattle.std.proofs.lemmas.List.Elements.{Contains-get_or}
use Rattle.point_set.specs.declared.rect.Rect.{Rect}
use Rattle.point_set.specs.Rects.{rect_at}
use Rattle.grid.specs.Cuts.{IsInSpan, grid_of, x_ends, y_ends}
use Rattle.grid.proofs.lemmas.Cutting.{cuts_ascend, has_ends, has_span}
use Rattle.covered_cells.specs.declared.grid_cell.GridCell.{GridCell}
use Rattle.covered_cells.specs.Covered.{cell_at, cells_of}
use Rattle.covered_cells.proofs.lemmas.Listed.{listed_where_some}
use Rattle.vocabulary.specs.Prelude.{Space, Tables, is_in}
use Rattle.log_laws.specs.Drawn.{AreDrawn}
use Rattle.list_lemmas.proofs.lemmas.Contained.{map_member}
use Rattle.point_laws.specs.Alike.{AreAlike, AreFirsts}
use Rattle.atoms.proofs.Points.{InCell, column_is, contains_from, has_point, is_in_from, moved, of_point, row_is}

-- Each space has both of two points of a cell, or neither.
pub alike_in_cell : (t : Tables) (k l p q : ℕ) → AreDrawn t → InCell t.rects k l p → InCell t.rects k l q → AreAlike t p q
alike_in_cell t k l p q drawn here there s c =
    let d = drawn.spaces s c in
    let go : (a b : ℕ) → InCell t.rects k l a → InCell t.rects k l b → is_in s.points a ≡ true → is_in s.points b ≡ true = λ a b from to e.
    let has = subst (λ ps. Contains ps a) d.same (contains_from s.points a e) in
    is_in_from s.points b (subst (λ ps. Contains ps b) (sym d.same)
    (of_point d.parts b (moved t.rects d.parts k l a b d.listed from to (has_point d.parts a d.are.1 has)))) in
    both_ways (is_in s.points p) (is_in s.points q) (go p q here there) (go q p there here)

-- A cell with a declared point, and its first one.
pub record Cell (t : Tables) (p : ℕ) : Type 0 where
  pub column : ℕ
  pub row : ℕ
  pub has : InCell t.rects column row p
  pub listed : Contains (cells_of t.rects) (cell_at (grid_of t.rects) column row)

pub cell_of : (t : Tables) (s : Space) (p : ℕ) → AreDrawn t → Contains t.spaces s → is_in s.points p ≡ true → Cell t p
cell_of t s p drawn c e =
    let d = drawn.spaces s c in
    let none : Rect = record { x0 = 0; x1 = 0; y0 = 0; y1 = 0 } in
    let has = has_point d.parts p d.are.1 (subst (λ ps. Contains ps p) d.same (contains_from s.points p e)) in
    let r : Rect = rect_at d.parts has.place in
    let of = d.listed r (Contains-get_or d.parts has.place none has.within) in
    let ends = has_ends t.rects r of in
    let holds = has.holds in
    let right : p / 2 ^ 32 < r.x1 + 1 = omega (arith, holds.right) in
    let high : p % 2 ^ 32 < r.y1 + 1 = omega (arith, holds.high) in
    let k = has_span (grid_of t.rects).xs r.x0 (r.x1 + 1) (p / 2 ^ 32) (cuts_ascend (x_ends t.rects)) ends.left ends.right holds.left right in
    let l = has_span (grid_of t.rects).ys r.y0 (r.y1 + 1) (p % 2 ^ 32) (cuts_ascend (y_ends t.rects)) ends.low ends.high holds.low high in
    record {
      column = k.0;
      row = l.0;
      has = record { column = k.1; row = l.1 };
      listed = (listed_where_some t.rects k.0 l.0).1 (record {
        rect = r;
        listed = of;
        x = p / 2 ^ 32;
        y = p % 2 ^ 32;
        in_column = k.1;
        in_row = l.1;
        holds = holds;
      });
    }

-- The first point of a cell that has a point is in the cell, and not greater.
pub first_in_cell : (rects : List Rect) (k l p : ℕ) → InCell rects k l p
    → InCell rects k l (get_or (grid_of rects).xs k 0 * 2 ^ 32 + get_or (grid_of rects).ys l 0)
first_in_cell rects k l p h =
    let x = get_or (grid_of rects).xs k 0 in
    let y = get_or (grid_of rects).ys l 0 in
    let fits : y < 2 ^ 32 = omega (arith, h.row.1) in
    record {
      column = subst (IsInSpan (grid_of rects).xs k) (sym (column_is x y fits)) (h.column.0, omega arith, omega (arith, h.column.1, h.column.2));
      row = subst (IsInSpan (grid_of rects).ys l) (sym (row_is x y fits)) (h.row.0, omega arith, omega (arith, h.row.1, h.row.2));
    }

pub first_least : (rects : List Rect) (k l p : ℕ) → InCell rects k l p
    → get_or (grid_of rects).xs k 0 * 2 ^ 32 + get_or (grid_of rects).ys l 0 ≤ p
first_least rects k l p h = omega (arith, h.column.1, h.row.1)

-- So the first points of the cells are those of all declared points.
pub are_firsts : (t : Tables) (firsts : List ℕ) → AreDrawn t → firsts ≡ map (λ (c : GridCell). c.first) (cells_of t.rects) → AreFirsts t firsts
are_firsts t firsts drawn is s c q e =
    let cell = cell_of t s q drawn c e in
    let first = first_in_cell t.rects cell.column cell.row q cell.has in
    record {
      first = (cell_at (grid_of t.rects) cell.column cell.row).first;
      listed = is_in_from firsts _ (subst (λ ns. Contains ns (cell_at (grid_of t.rects) cell.column cell.row).first) (sym is)
          (map_member (λ (c : GridCell). c.first) (cells_of t.rects) (cell_at (grid_of t.rects) cell.column cell.row) cell.listed));
      not_greater = first_least t.rects cell.column cell.row q cell.has;
      alike = alike_in_cell t cell.column cell.row _ q drawn first cell.has;
    }
