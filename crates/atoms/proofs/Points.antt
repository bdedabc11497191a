-- Points as columns and rows.
use Rattle.std.proofs.Common.{◌≡◌, ℕ, ◌+◌, ◌*◌, ◌/◌, ◌%◌, ◌^◌, ◌<◌, List, true, Contains, sym, subst, arith}
use Rattle.std.proofs.lemmas.List.Elements.{Contains-get_or}
use Rattle.point_set.specs.declared.rect.Rect.{Rect}
use Rattle.point_set.specs.Rects.{AreSmall, Has, rect_at, rect_points}
use Rattle.point_set.proofs.lemmas.Columns.{of_has, to_has}
use Rattle.grid.specs.Cuts.{IsInSpan, grid_of}
use Rattle.grid.proofs.lemmas.Cutting.{undivided}
use Rattle.vocabulary.specs.Prelude.{is_in}
use Rattle.log_laws.proofs.lemmas.Members.{is_in_of, member_in}

pub column_of : (p : ℕ) → p ≡ p / 2 ^ 32 * 2 ^ 32 + p % 2 ^ 32
column_of p = omega arith

pub row_fits : (p : ℕ) → p % 2 ^ 32 < 2 ^ 32
row_fits p = omega arith

pub column_is : (x y : ℕ) → y < 2 ^ 32 → (x * 2 ^ 32 + y) / 2 ^ 32 ≡ x
column_is x y fits = omega arith

pub row_is : (x y : ℕ) → y < 2 ^ 32 → (x * 2 ^ 32 + y) % 2 ^ 32 ≡ y
row_is x y fits = omega arith

-- A point of rectangles, by its column and row.
pub has_point : (rects : List Rect) (p : ℕ) → AreSmall rects → Contains (rect_points rects) p → Has rects (p / 2 ^ 32) (p % 2 ^ 32)
has_point rects p small c =
    let at = to_has rects p small c in
    let is = at.is in
    let fits = at.y_fits in
    let x : at.x ≡ p / 2 ^ 32 = omega (arith, is, fits) in
    let y : at.y ≡ p % 2 ^ 32 = omega (arith, is, fits) in
    subst (λ v. Has rects (p / 2 ^ 32) v) y (subst (λ z. Has rects z at.y) x at.has)

pub of_point : (rects : List Rect) (p : ℕ) → Has rects (p / 2 ^ 32) (p % 2 ^ 32) → Contains (rect_points rects) p
of_point rects p h = subst (Contains (rect_points rects)) (sym (column_of p)) (of_has rects (p / 2 ^ 32) (p % 2 ^ 32) h)

-- A point of a cell of the grid.
pub record InCell (rects : List Rect) (k l p : ℕ) : Type 0 where
  pub column : IsInSpan (grid_of rects).xs k (p / 2 ^ 32)
  pub row : IsInSpan (grid_of rects).ys l (p % 2 ^ 32)

-- Rectangles of the grid that have one point of a cell have each.
pub moved : (rects parts : List Rect) (k l p q : ℕ) → ((r : Rect) → Contains parts r → Contains rects r) → InCell rects k l p → InCell rects k l q
    → Has parts (p / 2 ^ 32) (p % 2 ^ 32) → Has parts (q / 2 ^ 32) (q % 2 ^ 32)
moved rects parts k l p q listed here there h =
    let none : Rect = record { x0 = 0; x1 = 0; y0 = 0; y1 = 0 } in
    let same = undivided rects (rect_at parts h.place) k l (p / 2 ^ 32) (p % 2 ^ 32) (q / 2 ^ 32) (q % 2 ^ 32)
    (listed (rect_at parts h.place) (Contains-get_or parts h.place none h.within)) here.column there.column here.row there.row in
    record { place = h.place; within = h.within; holds = same.0 h.holds }

pub is_in_from : (ns : List ℕ) (n : ℕ) → Contains ns n → is_in ns n ≡ true
is_in_from ns n c = is_in_of ns n c

pub contains_from : (ns : List ℕ) (n : ℕ) → is_in ns n ≡ true → Contains ns n
contains_from ns n e = (member_in ns n e)
