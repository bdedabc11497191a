-- Points that rectangles of two lists share.
use Rattle.std.specs.Prelude.{◌≡◌, ℕ, ◌<◌, ◌⊎◌, true, max, List, Contains, Option, MatchOption}
use Rattle.point_set.specs.declared.rect.Rect.{Rect}
use Rattle.point_set.specs.Rects.{Holds}
use Rattle.overlaps.specs.declared.point.Point.{Point}
use Rattle.overlaps.specs.Meeting.{AreApart, AreApartIn, spans}

-- No rectangle of the one list shares a point with one of the other.
abbrev pub AreApartFrom : List Rect → List Rect → Type 0
AreApartFrom ours theirs = (r s : Rect) → Contains ours r → Contains theirs s → AreApart r s

-- Nor do they share a point of these columns.
abbrev pub AreApartFromIn : ℕ → ℕ → List Rect → List Rect → Type 0
AreApartFromIn lo hi ours theirs = (r s : Rect) → Contains ours r → Contains theirs s → AreApartIn lo hi r s

-- Where one of two rectangles has all of these columns, they share no row.
abbrev pub SpansApart : ℕ → ℕ → List Rect → List Rect → Type 0
SpansApart lo hi ours theirs = (r s : Rect) → Contains ours r → Contains theirs s
    → (spans lo hi r ≡ true) ⊎ (spans lo hi s ≡ true) → (r.y1 < s.y0) ⊎ (s.y1 < r.y0)

-- Some rectangle has this point.
abbrev pub HasAt : List Rect → Point → Type 0
HasAt rects p = (r : Rect) × Contains rects r × Holds r p.x p.y

-- One of each list has it.
abbrev pub IsCommon : List Rect → List Rect → Point → Type 0
IsCommon ours theirs p = HasAt ours p × HasAt theirs p

-- The first point of two rectangles that share one: the first column and row that both have.
abbrev pub corner : Rect → Rect → Point
corner r s = record { x = max r.x0 s.x0; y = max r.y0 s.y0 }

-- Where a point is told, both lists have it; where none is, they share no point of these columns.
abbrev pub TellsBetween : ℕ → ℕ → List Rect → List Rect → Option Point → Type 0
TellsBetween lo hi ours theirs found = MatchOption found (AreApartFromIn lo hi ours theirs) (IsCommon ours theirs)
