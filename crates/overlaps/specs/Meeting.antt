-- Rectangles that share points.
use Rattle.std.specs.Prelude.{ℕ, ◌+◌, ◌≤◌, ◌&&◌, max, nat_le, nat_lt, not, Bool, List, [], ◌∷◌, AllPairs, Option, Some, None, MatchOption, if◌then◌else◌}
use Rattle.point_set.specs.declared.rect.Rect.{Rect}
use Rattle.point_set.specs.Rects.{Holds}
use Rattle.overlaps.specs.declared.node.Columns.{Columns}
use Rattle.overlaps.specs.declared.node.Ends.{Ends}
use Rattle.overlaps.specs.declared.point.Point.{Point}
use Rattle.std.specs.List.{AllByRecursion}

-- Each rectangle is so related to each later one.
abbrev pub Pairwise : (Rect → Rect → Type 0) → List Rect → Type 0
Pairwise R [] = Unit {0}
Pairwise R (r ∷ rs) = AllByRecursion (R r) rs × Pairwise R rs

-- They share no point.
abbrev pub AreApart : Rect → Rect → Type 0
AreApart r s = (x y : ℕ) → Holds r x y → Holds s x y → ⊥

-- They do not both have this point.
abbrev pub AreApartAt : Point → Rect → Rect → Type 0
AreApartAt p r s = Holds r p.x p.y → Holds s p.x p.y → ⊥

-- Two of the rectangles have this point.
abbrev pub IsShared : List Rect → Point → Type 0
IsShared rects p = ¬ AllPairs (AreApartAt p) rects

-- They share no point of these columns.
abbrev pub AreApartIn : ℕ → ℕ → Rect → Rect → Type 0
AreApartIn lo hi r s = (x y : ℕ) → lo ≤ x → x ≤ hi → Holds r x y → Holds s x y → ⊥

-- The first begins no higher than the second.
abbrev pub IsNoHigher : Rect → Rect → Type 0
IsNoHigher r s = r.y0 ≤ s.y0

-- A rectangle has a point in these columns.
pub record IsIn (lo hi : ℕ) (r : Rect) : Type 0 where
  pub begins : r.x0 ≤ hi
  pub ends : lo ≤ r.x1
  pub wide : r.x0 ≤ r.x1
  pub tall : r.y0 ≤ r.y1

-- Of the columns from `lo` to `hi`, a rectangle has none outside of these.
abbrev pub HasAllIn : ℕ → ℕ → Columns → Rect → Type 0
HasAllIn lo hi c r = (x : ℕ) → lo ≤ x → x ≤ hi → r.x0 ≤ x → x ≤ r.x1 → (c.lo ≤ x) × (x ≤ c.hi)

-- Whether a rectangle has all of these columns.
abbrev pub spans : ℕ → ℕ → Rect → Bool
spans lo hi r = nat_le r.x0 lo && nat_le hi r.x1

-- Whether a rectangle has some of them alone, and one up to the middle, or one behind it.
abbrev pub goes_left : ℕ → ℕ → ℕ → Rect → Bool
goes_left lo hi middle r = not (spans lo hi r) && nat_le r.x0 middle

abbrev pub goes_right : ℕ → ℕ → ℕ → Rect → Bool
goes_right lo hi middle r = not (spans lo hi r) && nat_lt middle r.x1

-- The first column of a rectangle that ends highest, with one rectangle more.
abbrev pub column_with : Ends → Rect → ℕ
column_with e r = if nat_lt e.any (r.y1 + 1) then r.x0 else e.column

-- The row above all rectangles so far, the first column of one that ends there, and the row above all that
-- have all columns.
abbrev pub ends_with : ℕ → ℕ → Ends → Rect → Ends
ends_with lo hi e r = record {
  any = max e.any (r.y1 + 1);
  column = column_with e r;
  spanning =
      if spans lo hi r then max e.spanning (r.y1 + 1) else e.spanning;
}

-- Whether a rectangle begins below the end of one so far, where one of the two has all columns.
abbrev pub clashes : ℕ → ℕ → Ends → Rect → Bool
clashes lo hi e r = if spans lo hi r then nat_lt r.y0 e.any else nat_lt r.y0 e.spanning

-- A point that it then shares with that one.
abbrev pub clash_point : ℕ → ℕ → Ends → Rect → Point
clash_point lo hi e r = record { x = max (if spans lo hi r then e.column else r.x0) lo; y = r.y0 }

-- The first such point.
abbrev pub clash_from : ℕ → ℕ → Ends → List Rect → Option Point
clash_from lo hi e [] = None
clash_from lo hi e (r ∷ rs) =
    if clashes lo hi e r then Some (clash_point lo hi e r) else clash_from lo hi (ends_with lo hi e r) rs

abbrev pub no_ends : Ends
no_ends = record { any = 0; column = 0; spanning = 0 }

-- Where a point is told, two of the rectangles have it; where none is, no two share a point of these columns.
abbrev pub Tells : ℕ → ℕ → List Rect → Option Point → Type 0
Tells lo hi rects found =
    MatchOption found (Pairwise (AreApartIn lo hi) rects) (λ p. ¬ Pairwise (AreApartAt p) rects)
