-- The rectangles of listed cells are the atoms.
use Rattle.std.proofs.Common.{◌≡◌, ℕ, ◌+◌, ◌-◌, ◌*◌, ◌/◌, ◌%◌, ◌^◌, ◌<◌, ◌≤◌, inl, inr, List, map, AllPairs, Contains, get_or, length, refl, sym, ap, ◌∙◌, subst, arith}
use Rattle.std.specs.List.{Any}
use Rattle.std.specs.List.Sorted.{IsStrictlyIncreasing}
use Rattle.std.proofs.lemmas.Bool.{cases_order}
use Rattle.std.proofs.lemmas.List.{get_or-map, length-map}
use Rattle.std.proofs.lemmas.List.Elements.{Contains-get_or}
use Rattle.std.proofs.lemmas.List.Kept.{AllPairs-from_increasing}
use Rattle.point_set.specs.declared.rect.Rect.{Rect}
use Rattle.point_set.proofs.lemmas.Ahead.{spread}
use Rattle.grid.specs.Cuts.{IsInSpan, grid_of, span_count, x_ends, y_ends}
use Rattle.grid.proofs.lemmas.Cutting.{cuts_ascend, undivided}
use Rattle.covered_cells.specs.declared.grid_cell.GridCell.{GridCell}
use Rattle.covered_cells.specs.Covered.{cell_at, cells_of}
use Rattle.covered_cells.proofs.lemmas.Listed.{listed, listed_where_some}
use Rattle.vocabulary.specs.Prelude.{Tables}
use Rattle.log_laws.specs.Drawn.{AreDrawn}
use Rattle.list_lemmas.proofs.lemmas.Contained.{member_map, map_member}
use Rattle.atoms.specs.Atoms.{AreAtomsOf, HasPoint, IsDeclared, atoms_of, cell_rect}
use Rattle.atoms.proofs.Points.{InCell, column_of, is_in_from}
use Rattle.atoms.proofs.Alike.{alike_in_cell, cell_of}

-- ---- A cell is where its rectangle is.

pub in_rect : (rects : List Rect) (k l p : ℕ) → InCell rects k l p → HasPoint (cell_rect (grid_of rects) (cell_at (grid_of rects) k l)) p
in_rect rects k l p h = record {
  left = h.column.1;
  right = omega (arith, h.column.2);
  low = h.row.1;
  high = omega (arith, h.row.2);
}

in_span : (ns : List ℕ) (k x : ℕ) → IsStrictlyIncreasing ns → k < span_count ns → get_or ns k 0 ≤ x → x ≤ get_or ns (k + 1) 0 - 1 → IsInSpan ns k x
in_span ns k x up lt low high =
    let more : k + 1 < length ns = omega (arith, lt) in
    (more, low, omega (arith, high, up k more))

-- A listed cell, with its places.
pub record Placed (rects : List Rect) (c : GridCell) : Type 0 where
  pub column : c.column < span_count (grid_of rects).xs
  pub row : c.row < span_count (grid_of rects).ys
  pub first : c.first ≡ get_or (grid_of rects).xs c.column 0 * 2 ^ 32 + get_or (grid_of rects).ys c.row 0
  pub is : cell_at (grid_of rects) c.column c.row ≡ c

pub placed : (rects : List Rect) (c : GridCell) → Contains (cells_of rects) c → Placed rects c
placed rects c h =
    let at = listed rects c h in
    subst (Placed rects) at.is (record { column = at.column_within; row = at.row_within; first = refl; is = refl })

pub of_rect : (rects : List Rect) (c : GridCell) (p : ℕ) → Placed rects c → HasPoint (cell_rect (grid_of rects) c) p → InCell rects c.column c.row p
of_rect rects c p at h = record {
  column = in_span (grid_of rects).xs c.column (p / 2 ^ 32) (cuts_ascend (x_ends rects)) at.column h.left h.right;
  row = in_span (grid_of rects).ys c.row (p % 2 ^ 32) (cuts_ascend (y_ends rects)) at.row h.low h.high;
}

-- ---- Each atom is of a listed cell.

pub record Atom (rects : List Rect) (r : Rect) : Type 0 where
  pub cell : GridCell
  pub listed : Contains (cells_of rects) cell
  pub is : r ≡ cell_rect (grid_of rects) cell

pub atom_at : (rects : List Rect) (r : Rect) → Contains (atoms_of rects) r → Atom rects r
atom_at rects r c =
    let m = member_map (cell_rect (grid_of rects)) (cells_of rects) r c in
    record { cell = m.0; listed = m.1; is = m.2 }

pub in_atom : (rects : List Rect) (r : Rect) (p : ℕ) → (a : Atom rects r) → HasPoint r p → InCell rects a.cell.column a.cell.row p
in_atom rects r p a h = of_rect rects a.cell p (placed rects a.cell a.listed) (subst (λ (s : Rect). HasPoint s p) a.is h)

-- ---- They have just the points of declared spaces.

is_declared : (t : Tables) (r : Rect) (p : ℕ) → AreDrawn t → Contains (atoms_of t.rects) r → HasPoint r p → IsDeclared t p
is_declared t r p drawn c h =
    let a = atom_at t.rects r c in
    let at = placed t.rects a.cell a.listed in
    let here = in_atom t.rects r p a h in
    let some = (listed_where_some t.rects a.cell.column a.cell.row).0 (subst (Contains (cells_of t.rects)) (sym at.is) a.listed) in
    let same = undivided t.rects some.rect a.cell.column a.cell.row some.x some.y (p / 2 ^ 32) (p % 2 ^ 32) some.listed some.in_column here.column some.in_row here.row in
    let space = drawn.within some.rect some.listed in (
      space.0,
      space.1,
      space.2,
      space.3,
      is_in_from space.1.points p (subst (Contains space.1.points) (sym (column_of p))
          (space.4 (p / 2 ^ 32) (p % 2 ^ 32) (same.0 some.holds))),
    )

has_atom : (t : Tables) (p : ℕ) → AreDrawn t → IsDeclared t p → Any (λ (r : Rect). HasPoint r p) (atoms_of t.rects)
has_atom t p drawn h =
    let cell = cell_of t h.1 p drawn (h.0, h.2, h.3) h.4 in
    let c = cell_at (grid_of t.rects) cell.column cell.row in
    let at = map_member (cell_rect (grid_of t.rects)) (cells_of t.rects) c cell.listed in
    (at.0, cell_rect (grid_of t.rects) c, at.1, at.2, in_rect t.rects cell.column cell.row p cell.has)

-- ---- No two share a point.

pub span_once : (ns : List ℕ) (k j x : ℕ) → IsStrictlyIncreasing ns → IsInSpan ns k x → IsInSpan ns j x → k ≡ j
span_once ns k j x up here there = elim (cases_order k j) [
  | inl same ↦ same
  | inr (inl before) ↦ absurd (omega (arith, here.2, there.1, there.0, spread ns (k + 1) j up (omega (arith, before)) (omega (arith, there.0))))
  | inr (inr behind) ↦ absurd (omega (arith, there.2, here.1, here.0, spread ns (j + 1) k up (omega (arith, behind)) (omega (arith, here.0))))
]

-- Cells that share a point begin at one.
same_first : (rects : List Rect) (c d : GridCell) (p : ℕ) → Placed rects c → Placed rects d → InCell rects c.column c.row p → InCell rects d.column d.row p
    → c.first ≡ d.first
same_first rects c d p at other here there =
    let column = span_once (grid_of rects).xs c.column d.column (p / 2 ^ 32) (cuts_ascend (x_ends rects)) here.column there.column in
    let row = span_once (grid_of rects).ys c.row d.row (p % 2 ^ 32) (cuts_ascend (y_ends rects)) here.row there.row in
    at.first ∙ ap (λ k. get_or (grid_of rects).xs k 0 * 2 ^ 32 + get_or (grid_of rects).ys c.row 0) column
    ∙ ap (λ l. get_or (grid_of rects).xs d.column 0 * 2 ^ 32 + get_or (grid_of rects).ys l 0) row ∙ sym other.first

are_apart : (rects : List Rect) → IsStrictlyIncreasing (map (λ (c : GridCell). c.first) (cells_of rects))
    → AllPairs (λ (r s : Rect). (p : ℕ) → HasPoint r p → HasPoint s p → ⊥) (atoms_of rects)
are_apart rects up i j d lt within p h g =
    let cells = cells_of rects in
    let grid = grid_of rects in
    let none : GridCell = record { column = 0; row = 0; first = 0 } in
    let n = length-map cells (cell_rect grid) in
    let m = length-map cells (λ (c : GridCell). c.first) in
    let j_lt : j < length cells = omega (arith, n, within) in
    let i_lt : i < length cells = omega (arith, lt, j_lt) in
    let c = get_or cells i none in
    let e = get_or cells j none in
    let c_at = placed rects c (Contains-get_or cells i none i_lt) in
    let e_at = placed rects e (Contains-get_or cells j none j_lt) in
    let here = of_rect rects c p c_at (subst (λ (r : Rect). HasPoint r p) (get_or-map (cell_rect grid) cells i none d i_lt) h) in
    let there = of_rect rects e p e_at (subst (λ (r : Rect). HasPoint r p) (get_or-map (cell_rect grid) cells j none d j_lt) g) in
    let same = same_first rects c e p c_at e_at here there in
    let less = AllPairs-from_increasing _ up i j 0 lt (omega (arith, m, j_lt)) in
    omega (arith, less, same, get_or-map (λ (c : GridCell). c.first) cells i none 0 i_lt, get_or-map (λ (c : GridCell). c.first) cells j none 0 j_lt)

pub are_atoms : (t : Tables) → AreDrawn t → IsStrictlyIncreasing (map (λ (c : GridCell). c.first) (cells_of t.rects)) → AreAtomsOf t (atoms_of t.rects)
are_atoms t drawn up = record {
  points = λ p. (λ h. is_declared t h.1 p drawn (h.0, h.2, h.3) h.4, has_atom t p drawn);
  apart = are_apart t.rects up;
  alike = λ r c p q h g.
      let a = atom_at t.rects r c in
      alike_in_cell t a.cell.column a.cell.row p q drawn (in_atom t.rects r p a h) (in_atom t.rects r q a g);
}
