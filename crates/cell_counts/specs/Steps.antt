-- Steps from one point at which a cell begins to the next.
use Rattle.std.specs.Prelude.{◌≡◌, ℕ, ◌+◌, ◌*◌, ◌^◌, ◌<◌, ◌≤◌, ◌==◌, Bool, false, List, Contains, Option, MatchOption}
use Rattle.std.specs.List.{list_any}
use Rattle.point_set.specs.declared.rect.Rect.{Rect}
use Rattle.grid.specs.Corners.{is_corner}
use Rattle.grid.specs.Cuts.{Cuts, grid_of}

-- Whether a number is one of these.
abbrev pub is_one : List ℕ → ℕ → Bool
is_one ns n = list_any (λ m. m == n) ns

-- No cut stands after a number, up to another one.
abbrev pub AreUncut : List ℕ → ℕ → ℕ → Type 0
AreUncut ns low high = (n : ℕ) → low < n → n ≤ high → ¬ Contains ns n

-- At no point between these two does a cell begin.
abbrev pub NoneBegin : List Rect → ℕ → ℕ → Type 0
NoneBegin all p q = (n : ℕ) → p < n → n < q → is_corner all n ≡ false

-- A point is above this one, and between the two no cell begins; or no cell begins above this one.
abbrev pub IsStep : Cuts → ℕ → Option ℕ → Type 0
IsStep grid p next = (all : List Rect) → grid ≡ grid_of all
    → MatchOption next (NoneBegin all p (2 ^ 64)) (λ q. NoneBegin all p q)

-- The first point of the column after this one, if there is one.
abbrev pub IsColumnAfter : ℕ → Option ℕ → Type 0
IsColumnAfter x next = MatchOption next (x + 1 ≡ 2 ^ 32) (λ q. q ≡ (x + 1) * 2 ^ 32)

-- The next point of a set behind which one can go on: no cell begins at a point of the set between the two;
-- or none does at a point behind the first.
abbrev pub IsPointAfter : List Rect → List ℕ → ℕ → Option ℕ → Type 0
IsPointAfter all points p next = MatchOption next ((q : ℕ) → p < q → Contains points q → is_corner all q ≡ false)
    (λ n. Contains points n × ((q : ℕ) → p < q → q < n → Contains points q → is_corner all q ≡ false))
