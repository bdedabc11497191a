-- Kinds of points: points that no space tells apart are of one kind.
use Rattle.std.specs.Prelude.{◌≡◌, ◌↔◌, ℕ, ◌<◌, List, length, filter, get_or, sum_by, Contains}
use Rattle.std.specs.List.{range_with_len}
use Rattle.vocabulary.specs.Prelude.{Space, Tables, is_in}
use Rattle.atoms.specs.Atoms.{atoms_of, first_points}

-- Each of some spaces has both points or neither.
abbrev pub AreAlikeIn : List Space → ℕ → ℕ → Type 0
AreAlikeIn spaces p q = (s : Space) → Contains spaces s → is_in s.points p ≡ is_in s.points q

-- Each point of a list has a number, and two have the same exactly where none of some spaces tells them
-- apart.
pub record AreKinds (spaces : List Space) (points numbers : List ℕ) : Type 0 where
  pub each : length numbers ≡ length points
  pub alike : (i j : ℕ) → i < length points → j < length points
      → (get_or numbers i 0 ≡ get_or numbers j 0) ↔ AreAlikeIn spaces (get_or points i 0) (get_or points j 0)

-- The places in a list of the points that a set has.
abbrev pub places_of : List ℕ → List ℕ → List ℕ
places_of set points = filter (λ k. is_in set (get_or points k 0)) (range_with_len 0 (length points))

-- How many points of a list some spaces have together, each counted once for each space.
abbrev pub shares : List Space → List ℕ → ℕ
shares spaces points = sum_by (λ s. length (places_of s.points points)) spaces

-- How many first points of atoms the spaces of a log have together.
abbrev pub atom_shares : Tables → ℕ
atom_shares t = shares t.spaces (first_points (atoms_of t.rects))
