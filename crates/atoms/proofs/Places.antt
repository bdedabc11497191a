-- The first points of atoms, and the atom that has a point.
use Rattle.std.proofs.Common.{◌≡◌, ◌≢◌, inl, inr, ℕ, suc, ◌+◌, ◌*◌, ◌/◌, ◌%◌, ◌^◌, ◌<◌, ◌≤◌, List, [], ◌∷◌, map, Option, Some, None, Contains, get_or, slice_get, length, refl, sym, ap, ◌∙◌, subst, arith}
use Rattle.std.specs.List.{Any}
use Rattle.std.specs.Borrow.{Bor}
use Rattle.std.specs.Option.{IsSomeAnd}
use Rattle.std.specs.Slice.{IsItemAt}
use Rattle.std.specs.List.Sorted.{IsPartitionPoint, IsStrictlyIncreasing}
use Rattle.std.proofs.lemmas.Bool.{cases_order}
use Rattle.std.proofs.lemmas.Option.{slice_get-get_or}
use Rattle.std.proofs.lemmas.List.{get_or-map, get_or_default, length-map}
use Rattle.std.proofs.lemmas.List.Elements.{Contains-get_or}
use Rattle.point_set.specs.declared.rect.Rect.{Rect}
use Rattle.point_set.proofs.lemmas.Ahead.{spread}
use Rattle.grid.specs.Cuts.{AreCuts, Cuts, IsInSpan, grid_of, span_count, x_ends, y_ends}
use Rattle.grid.proofs.lemmas.Cutting.{cuts_ascend}
use Rattle.covered_cells.specs.declared.grid_cell.GridCell.{GridCell}
use Rattle.covered_cells.specs.Covered.{cells_of}
use Rattle.vocabulary.specs.Prelude.{Tables}
use Rattle.log_laws.specs.Drawn.{AreDrawn}
use Rattle.point_laws.specs.Alike.{AreFirsts}
use Rattle.atoms.specs.Atoms.{AreAtomsOf, AreKept, HasPoint, IsAtomAt, IsIn, IsPlaceOf, atoms_of, cell_rect, first_points}
use Rattle.atoms.proofs.Points.{InCell, column_is, row_is}
use Rattle.atoms.proofs.Alike.{are_firsts, first_in_cell}
use Rattle.atoms.proofs.Parted.{Placed, are_atoms, atom_at, in_atom, in_rect, placed, span_once}
use Rattle.list_lemmas.proofs.lemmas.Contained.{map_member}

-- The first points of cells are those of their rectangles.
firsts_by : (rects : List Rect) (cells : List GridCell) → ((c : GridCell) → Contains cells c → Placed rects c)
    → map (λ (c : GridCell). c.first) cells ≡ first_points (map (cell_rect (grid_of rects)) cells)
firsts_by rects [] are = refl
firsts_by rects (c ∷ cs) are =
    ap (λ n. n ∷ map (λ (c : GridCell). c.first) cs) (are c (0, omega arith, refl)).first
    ∙ ap (λ ns. (get_or (grid_of rects).xs c.column 0 * 2 ^ 32 + get_or (grid_of rects).ys c.row 0) ∷ ns)
    (firsts_by rects cs (λ d h. are d (suc h.0, omega (arith, h.1), h.2)))

pub firsts_are : (rects : List Rect) → map (λ (c : GridCell). c.first) (cells_of rects) ≡ first_points (atoms_of rects)
firsts_are rects = firsts_by rects (cells_of rects) (placed rects)

pub atoms_kept : (grid : Cuts) (cells : List GridCell) (firsts : List ℕ) → (kept : AreKept grid cells firsts)
    → map (cell_rect grid) cells ≡ atoms_of kept.rects
atoms_kept grid cells firsts kept =
    ap (λ (g : Cuts). map (cell_rect g) cells) kept.grid_is ∙ ap (map (cell_rect (grid_of kept.rects))) kept.cells_are

pub firsts_kept : (grid : Cuts) (cells : List GridCell) (firsts : List ℕ) → AreKept grid cells firsts → firsts ≡ first_points (map (cell_rect grid) cells)
firsts_kept grid cells firsts kept =
    kept.firsts_are ∙ ap (map (λ (c : GridCell). c.first)) kept.cells_are ∙ firsts_are kept.rects
    ∙ sym (ap first_points (atoms_kept grid cells firsts kept))

-- A listed cell, and its rectangle among the atoms.
pub record Here (grid : Cuts) (cells : List GridCell) (k : ℕ) (c : GridCell) : Type 0 where
  pub column : c.column + 1 < length grid.xs
  pub row : c.row + 1 < length grid.ys
  pub is : Some (cell_rect grid c) ≡ slice_get (map (cell_rect grid) cells) k

pub is_here : (grid : Cuts) (cells : List GridCell) (firsts : List ℕ) → AreKept grid cells firsts → (k : ℕ) (c : GridCell) → k < length cells
    → c ≡ get_or cells k c → Here grid cells k c
is_here grid cells firsts kept k c lt is =
    let listed : Contains (cells_of kept.rects) c = subst (λ xs. Contains xs c) kept.cells_are (k, lt, sym is) in
    let at = placed kept.rects c listed in
    let x = ap (λ (g : Cuts). length g.xs) kept.grid_is in
    let y = ap (λ (g : Cuts). length g.ys) kept.grid_is in
    record {
      column = omega (arith, at.column, x);
      row = omega (arith, at.row, y);
      is = ap (λ d. Some (cell_rect grid d)) is ∙ ap (λ r. Some r) (sym (get_or-map (cell_rect grid) cells k c (cell_rect grid c) lt))
          ∙ sym (slice_get-get_or (map (cell_rect grid) cells) k (cell_rect grid c) (omega (arith, lt, length-map cells (cell_rect grid))));
    }

pub is_here_by : (grid : Cuts) (cells : List GridCell) (firsts : List ℕ) → AreKept grid cells firsts → (k : ℕ) (xs : List GridCell) (c : Bor GridCell)
    → xs ≡ cells → IsItemAt xs k (Some c) → Here grid cells k c.now
is_here_by grid cells firsts kept k xs c same at =
    is_here grid cells firsts kept k c.now (subst (λ (ys : List GridCell). k < length ys) same at.3.0)
    (at.3.1 c.now ∙ ap (λ (ys : List GridCell). get_or ys k c.now) same)

-- ---- The atom that has a point.

-- The first point of a column and a row of a grid.
abbrev pub first_of : Cuts → ℕ → ℕ → ℕ
first_of grid k l = get_or grid.xs k 0 * 2 ^ 32 + get_or grid.ys l 0

in_grid : (grid : Cuts) (rects : List Rect) (k l p : ℕ) → grid ≡ grid_of rects → IsIn grid k l p → InCell rects k l p
in_grid grid rects k l p is h = record {
  column = subst (λ (g : Cuts). IsInSpan g.xs k (p / 2 ^ 32)) is h.column;
  row = subst (λ (g : Cuts). IsInSpan g.ys l (p % 2 ^ 32)) is h.row;
}

-- The cell of an atom that has the point.
record AtomOf (grid : Cuts) (cells : List GridCell) (rects : List Rect) (p : ℕ) : Type 0 where
  cell : GridCell
  listed : Contains cells cell
  at : Placed rects cell
  has : InCell rects cell.column cell.row p

atom_of : (grid : Cuts) (cells : List GridCell) (firsts : List ℕ) → (kept : AreKept grid cells firsts) → (p : ℕ)
    → Any (λ (r : Rect). HasPoint r p) (map (cell_rect grid) cells) → AtomOf grid cells kept.rects p
atom_of grid cells firsts kept p h =
    let rects = kept.rects in
    let same = atoms_kept grid cells firsts kept in
    let c = subst (λ rs. Contains rs h.1) same (h.0, h.2, h.3) in
    let a = atom_at rects h.1 c in
    record {
      cell = a.cell;
      listed = subst (λ xs. Contains xs a.cell) (sym kept.cells_are) a.listed;
      at = placed rects a.cell a.listed;
      has = in_atom rects h.1 p a h.4;
    }

pub no_cell : (grid : Cuts) (cells : List GridCell) (firsts : List ℕ) → AreKept grid cells firsts → (p : ℕ)
    → ((k l : ℕ) → IsIn grid k l p → ⊥) → Any (λ (r : Rect). HasPoint r p) (map (cell_rect grid) cells) → ⊥
no_cell grid cells firsts kept p none h =
    let a = atom_of grid cells firsts kept p h in
    none a.cell.column a.cell.row (record {
      column = subst (λ (g : Cuts). IsInSpan g.xs a.cell.column (p / 2 ^ 32)) (sym kept.grid_is) a.has.column;
      row = subst (λ (g : Cuts). IsInSpan g.ys a.cell.row (p % 2 ^ 32)) (sym kept.grid_is) a.has.row;
    })

-- Cells that have one point are in the same column and row.
same_column : (rects : List Rect) (k l i j p : ℕ) → InCell rects k l p → InCell rects i j p → k ≡ i
same_column rects k l i j p here there = span_once (grid_of rects).xs k i (p / 2 ^ 32) (cuts_ascend (x_ends rects)) here.column there.column

same_row : (rects : List Rect) (k l i j p : ℕ) → InCell rects k l p → InCell rects i j p → l ≡ j
same_row rects k l i j p here there = span_once (grid_of rects).ys l j (p % 2 ^ 32) (cuts_ascend (y_ends rects)) here.row there.row

-- The first point of a listed cell is in it.
begins_in : (ns : List ℕ) (k : ℕ) → IsStrictlyIncreasing ns → k < span_count ns → IsInSpan ns k (get_or ns k 0)
begins_in ns k up lt = let more : k + 1 < length ns = omega (arith, lt) in (more, omega arith, up k more)

own_first : (rects : List Rect) (c : GridCell) → AreCuts (grid_of rects).ys → Placed rects c
    → InCell rects c.column c.row (first_of (grid_of rects) c.column c.row)
own_first rects c small at =
    let x = get_or (grid_of rects).xs c.column 0 in
    let y = get_or (grid_of rects).ys c.row 0 in
    let column = begins_in (grid_of rects).xs c.column (cuts_ascend (x_ends rects)) at.column in
    let row = begins_in (grid_of rects).ys c.row (cuts_ascend (y_ends rects)) at.row in
    let fits : y < 2 ^ 32 = omega (arith, row.2, small.1 (c.row + 1) 0 row.0) in
    record {
      column = subst (IsInSpan (grid_of rects).xs c.column) (sym (column_is x y fits)) column;
      row = subst (IsInSpan (grid_of rects).ys c.row) (sym (row_is x y fits)) row;
    }

-- Where the first point of its column and row is listed, there is the atom.
pub found_at : (grid : Cuts) (cells : List GridCell) (firsts : List ℕ) → AreKept grid cells firsts → (k l p i : ℕ) → IsIn grid k l p
    → i < length firsts → get_or firsts i 0 ≡ first_of grid k l → IsAtomAt (map (cell_rect grid) cells) p (Some i)
found_at grid cells firsts kept k l p i h lt is =
    let rects = kept.rects in
    let none : GridCell = record { column = 0; row = 0; first = 0 } in
    let here = in_grid grid rects k l p kept.grid_is h in
    let first = first_in_cell rects k l p here in
    let n = ap length kept.firsts_are in
    let m = length-map cells (λ (c : GridCell). c.first) in
    let within : i < length cells = omega (arith, lt, n, m) in
    let c : GridCell = get_or cells i none in
    let at = placed rects c (subst (λ xs. Contains xs c) kept.cells_are (Contains-get_or cells i none within)) in
    let begins : c.first ≡ first_of (grid_of rects) k l =
    sym (ap (λ ns. get_or ns i 0) kept.firsts_are ∙ get_or-map (λ (c : GridCell). c.first) cells i none 0 within) ∙ is
    ∙ ap (λ g. first_of g k l) kept.grid_is in
    let own = own_first rects c (subst (λ (g : Cuts). AreCuts g.ys) kept.grid_is kept.rows) at in
    let there : InCell rects c.column c.row (first_of (grid_of rects) k l) = subst (InCell rects c.column c.row) (sym at.first ∙ begins) own in
    let column = same_column rects k l c.column c.row (first_of (grid_of rects) k l) first there in
    let row = same_row rects k l c.column c.row (first_of (grid_of rects) k l) first there in
    let has : InCell rects c.column c.row p = subst (λ a. InCell rects a c.row p) column (subst (λ b. InCell rects k b p) row here) in
    let holds : HasPoint (cell_rect grid c) p = subst (λ (g : Cuts). HasPoint (cell_rect g c) p) (sym kept.grid_is)
    (subst (λ (d : GridCell). HasPoint (cell_rect (grid_of rects) d) p) at.is (in_rect rects c.column c.row p has)) in
    let put = is_here grid cells firsts kept i c within (get_or_default cells i none c within) in
    subst (λ o. IsSomeAnd o (λ (r : Rect). HasPoint r p)) put.is holds

-- Where it is not, no atom has the point.
pub not_found : (grid : Cuts) (cells : List GridCell) (firsts : List ℕ) → AreKept grid cells firsts → (k l p : ℕ) → IsIn grid k l p
    → (Contains firsts (first_of grid k l) → ⊥) → Any (λ (r : Rect). HasPoint r p) (map (cell_rect grid) cells) → ⊥
not_found grid cells firsts kept k l p h none some =
    let rects = kept.rects in
    let a = atom_of grid cells firsts kept p some in
    let here = in_grid grid rects k l p kept.grid_is h in
    let column = same_column rects k l a.cell.column a.cell.row p here a.has in
    let row = same_row rects k l a.cell.column a.cell.row p here a.has in
    let begins : a.cell.first ≡ first_of grid k l =
    a.at.first ∙ ap (λ i. first_of (grid_of rects) i a.cell.row) (sym column) ∙ ap (λ j. first_of (grid_of rects) k j) (sym row)
    ∙ ap (λ g. first_of g k l) (sym kept.grid_is) in
    none (subst (Contains firsts) begins (subst (λ ns. Contains ns a.cell.first) (sym kept.firsts_are)
    (map_member (λ (c : GridCell). c.first) cells a.cell a.listed)))

-- The place of the first point of a cell that has the point is that of the atom.
pub atom_placed : (grid : Cuts) (cells : List GridCell) (firsts : List ℕ) → AreKept grid cells firsts → (c : GridCell) (p : ℕ)
    → IsIn grid c.column c.row p → c.first ≡ first_of grid c.column c.row → (o : Option ℕ) → IsPlaceOf firsts c.first o
    → IsAtomAt (map (cell_rect grid) cells) p o
atom_placed grid cells firsts kept c p h begins (Some i) at = found_at grid cells firsts kept c.column c.row p i h at.0 (at.1 ∙ begins)
atom_placed grid cells firsts kept c p h begins None at =
    not_found grid cells firsts kept c.column c.row p h (subst (λ n. Contains firsts n → ⊥) begins at)

-- ---- The place of a number.

pub is_listed : (ns : List ℕ) (n k : ℕ) → k < length ns → get_or ns k 0 ≡ n → IsPlaceOf ns n (Some k)
is_listed ns n k lt is = (lt, is)

pub not_listed : (ns : List ℕ) (n k : ℕ) → IsPartitionPoint (λ m. m < n) (λ m. n ≤ m) ns k → (k < length ns → get_or ns k 0 ≢ n)
    → IsStrictlyIncreasing ns → Contains ns n → ⊥
not_listed ns n k parts other up c =
    let at : get_or ns c.0 0 ≡ n = get_or_default ns c.0 0 n c.1 ∙ c.2 in
    elim (cases_order c.0 k) [
      | inl here ↦ other (subst (λ i. i < length ns) here c.1) (subst (λ i. get_or ns i 0 ≡ n) here at)
      | inr (inl before) ↦ omega (arith, at, parts.0 c.0 0 (omega arith) before)
      | inr (inr behind) ↦
          let from = parts.1 k 0 (omega arith) (omega (arith, behind, c.1)) in
          omega (arith, at, from, spread ns k c.0 up (omega (arith, behind)) c.1, behind)
    ]

-- ---- What is made of the rectangles of a log.

same_atoms : (grid : Cuts) (cells : List GridCell) (rects : List Rect) → grid ≡ grid_of rects → cells ≡ cells_of rects
    → map (cell_rect grid) cells ≡ atoms_of rects
same_atoms grid cells rects is are = ap (λ (g : Cuts). map (cell_rect g) cells) is ∙ ap (map (cell_rect (grid_of rects))) are

pub are_atoms_kept : (grid : Cuts) (cells : List GridCell) (rects : List Rect) → grid ≡ grid_of rects → cells ≡ cells_of rects
    → IsStrictlyIncreasing (map (λ (c : GridCell). c.first) cells) → (t : Tables) → rects ≡ t.rects → AreDrawn t
    → AreAtomsOf t (map (cell_rect grid) cells)
are_atoms_kept grid cells rects is are up t same drawn =
    subst (AreAtomsOf t) (sym (same_atoms grid cells rects is are ∙ ap atoms_of same))
    (are_atoms t drawn (subst (λ rs. IsStrictlyIncreasing (map (λ (c : GridCell). c.first) (cells_of rs))) same
    (subst (λ xs. IsStrictlyIncreasing (map (λ (c : GridCell). c.first) xs)) are up)))

pub are_firsts_kept : (grid : Cuts) (cells : List GridCell) (rects : List Rect) → grid ≡ grid_of rects → cells ≡ cells_of rects
    → (t : Tables) → rects ≡ t.rects → AreDrawn t → AreFirsts t (first_points (map (cell_rect grid) cells))
are_firsts_kept grid cells rects is are t same drawn =
    are_firsts t (first_points (map (cell_rect grid) cells)) drawn
    (ap first_points (same_atoms grid cells rects is are ∙ ap atoms_of same) ∙ sym (firsts_are t.rects))
