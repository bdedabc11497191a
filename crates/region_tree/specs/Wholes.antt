-- The spaces that partitions cut, and what they leave free.
use Rattle.std.specs.Prelude.{ℕ, ◌+◌, ◌*◌, ◌^◌, ◌<◌, ◌≤◌, nat_le, List, [], slice_get, AllPairs, Contains, filter, Option, Some, None, MatchOption, min}
use Rattle.std.specs.Option.{option_map_or}
use Rattle.point_set.specs.declared.rect.Rect.{Rect}
use Rattle.point_set.specs.Rects.{Holds}
use Rattle.overlaps.specs.declared.point.Point.{Point}
use Rattle.overlaps.specs.Between.{HasAt}
use Rattle.overlaps.specs.Meeting.{IsNoHigher}
use Rattle.plane_gaps.specs.Gaps.{HasPoint, IsRect}
use Rattle.vocabulary.specs.Prelude.{Sub}
use Rattle.log_tables.specs.Regions.{Regions}
use Rattle.region_tree.specs.Faults.{IsFaulty, IsOutside, points_cut}

-- The points of the space that the partition of subspace `i` cuts.
abbrev pub whole_at : Regions → ℕ → List ℕ
whole_at d i = option_map_or (λ (s : Sub). points_cut d s.part) (slice_get d.subs i) []

-- Each point of a rectangle is in the list.
abbrev pub IsHeld : List ℕ → Rect → Type 0
IsHeld points r = (x y : ℕ) → Holds r x y → Contains points (x * 2 ^ 32 + y)

-- So it is of each of these rectangles.
abbrev pub AreHeld : List ℕ → List Rect → Type 0
AreHeld points rects = (r : Rect) → Contains rects r → IsHeld points r

-- A point of some rectangle that is not in the list, or `None` where there is none.
abbrev pub IsPointOutside : List ℕ → List Rect → Option Point → Type 0
IsPointOutside points rects o =
    MatchOption o (AreHeld points rects) (λ p. HasAt rects p × ¬ Contains points (p.x * 2 ^ 32 + p.y))

-- The rectangles that begin up to this column.
abbrev pub near : ℕ → List Rect → List Rect
near last rects = filter (λ (r : Rect). nat_le r.x0 last) rects

-- By ascending first rows, the gaps have no point of the list, and all others up to this column.
pub record AreGaps (points : List ℕ) (last : ℕ) (gaps : List Rect) : Type 0 where
  pub order : AllPairs IsNoHigher gaps
  pub are : (r : Rect) → Contains gaps r → IsRect r
  pub apart : (x y : ℕ) → HasPoint gaps x y → ¬ Contains points (x * 2 ^ 32 + y)
  pub all : (x y : ℕ) → x ≤ last → y < 2 ^ 32 → ¬ Contains points (x * 2 ^ 32 + y) → HasPoint gaps x y

-- No subspace before `limit` has a point outside of the space that its partition cuts.
abbrev pub NoneOutside : Regions → ℕ → Type 0
NoneOutside d limit = (i point : ℕ) → i < limit → ¬ IsOutside d i point

-- The first subspace that has such a point, or `None` where there is none.
abbrev pub IsFirstOutside : Regions → Option ℕ → Type 0
IsFirstOutside d o = MatchOption o ((i point : ℕ) → ¬ IsOutside d i point)
    (λ i. NoneOutside d i × ¬ ((point : ℕ) → ¬ IsOutside d i point))

-- The lesser of a subspace and the first one of a pair, if there is one.
abbrev pub lesser : Option ℕ → Option (ℕ × ℕ) → Option ℕ
lesser (Some i) (Some met) = Some (min i met.0)
lesser (Some i) None = Some i
lesser None (Some met) = Some met.0
lesser None None = None

-- The first faulty subspace, or `None` where there is none.
abbrev pub IsFirstFaulty : Regions → Option ℕ → Type 0
IsFirstFaulty d o = MatchOption o ((i : ℕ) → ¬ IsFaulty d i)
    (λ i. ((k : ℕ) → k < i → ¬ IsFaulty d k) × ¬ ¬ IsFaulty d i)
