-- The numbers at which rectangles cut columns and rows.
use Rattle.std.specs.Prelude.{◌↔◌, ℕ, ◌+◌, ◌-◌, ◌^◌, ◌<◌, ◌≤◌, ◌==◌, ◌&&◌, nat_le, nat_lt, List, [], ◌∷◌, All, length, get_or, filter, Option, Some, None, MatchOption, if◌then◌else◌}
use Rattle.std.specs.List.{flat_map}
use Rattle.std.specs.List.Sorted.{IsStrictlyIncreasing}
use Rattle.point_set.specs.declared.rect.Rect.{Rect}
use Rattle.point_set.specs.Rects.{Holds}

-- An ascending list with one number more, if it is not there.
abbrev pub with_cut : ℕ → List ℕ → List ℕ
with_cut n [] = n ∷ []
with_cut n (m ∷ ms) = if nat_lt n m then n ∷ m ∷ ms else (if n == m then m ∷ ms else m ∷ with_cut n ms)

-- Each number once, in ascending order.
abbrev pub cuts : List ℕ → List ℕ
cuts [] = []
cuts (n ∷ ns) = with_cut n (cuts ns)

-- The columns at which rectangles begin, and those that follow their last ones.
abbrev pub x_ends : List Rect → List ℕ
x_ends rects = flat_map (λ r. r.x0 ∷ (r.x1 + 1) ∷ []) rects

-- The rows at which rectangles begin, and those that follow their last ones.
abbrev pub y_ends : List Rect → List ℕ
y_ends rects = flat_map (λ r. r.y0 ∷ (r.y1 + 1) ∷ []) rects

-- The cuts of columns, and those of rows.
pub record Cuts : Type 0 where
  pub xs : List ℕ
  pub ys : List ℕ

-- The grid of rectangles has their ends as cuts.
abbrev pub grid_of : List Rect → Cuts
grid_of rects = record { xs = cuts (x_ends rects); ys = cuts (y_ends rects) }

-- How many columns, or rows, lie between cuts.
abbrev pub span_count : List ℕ → ℕ
span_count ns = length ns - 1

-- The first and the last number of a column, or a row: from its cut to the number before the next cut.
abbrev pub span_at : List ℕ → ℕ → Option (ℕ × ℕ)
span_at ns k = if nat_lt (k + 1) (length ns) then Some (get_or ns k 0, get_or ns (k + 1) 0 - 1) else None

-- The column, or the row, has the number.
abbrev pub IsInSpan : List ℕ → ℕ → ℕ → Type 0
IsInSpan ns k x = (k + 1 < length ns) × (get_or ns k 0 ≤ x) × (x < get_or ns (k + 1) 0)

-- It is the column, or the row, that has the number; or none has it.
abbrev pub IsSpanOf : List ℕ → ℕ → Option ℕ → Type 0
IsSpanOf ns x o = MatchOption o ((k : ℕ) → ¬ IsInSpan ns k x) (λ k. IsInSpan ns k x)

-- Cuts ascend, and none is above 2 ^ 32.
abbrev pub AreCuts : List ℕ → Type 0
AreCuts ns = IsStrictlyIncreasing ns × All (λ n. n ≤ 2 ^ 32) ns

-- The cuts from one number to another, both included.
abbrev pub cuts_within : ℕ → ℕ → List ℕ → List ℕ
cuts_within low high ns = filter (λ n. nat_le low n && nat_le n high) ns

-- The rectangle has both points, or neither.
abbrev pub HasBoth : Rect → ℕ → ℕ → ℕ → ℕ → Type 0
HasBoth r x y z v = Holds r x y ↔ Holds r z v
