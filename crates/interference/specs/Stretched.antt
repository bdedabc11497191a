-- Pairs of one item with items in a row.
use Rattle.std.specs.Prelude.{◌≡◌, ◌<◌, ◌≤◌, ℕ, ◌-◌, List, ◌++◌, map, length, slice_index, true, Option}
use Rattle.std.specs.List.{range_with_len}
use Rattle.interference.specs.declared.pair.Pair.{Pair}
use Rattle.interference.specs.declared.stretch.Stretch.{Stretch}
use Rattle.interference.specs.Pairing.{is_asked}

-- The pair of a stretch with one of its items.
abbrev pub pair_in : Stretch → ℕ → Pair
pair_in s b = record { a = s.a; b = b; kind = s.kind; place = s.place }

-- The pairs of a stretch from one of its items on.
abbrev pub pairs_from : Stretch → ℕ → List Pair
pairs_from s b = map (pair_in s) (range_with_len b (s.to - b))

-- The pairs that come first are those of a stretch, and these are left.
pub record StartsWith (pairs rest : List Pair) (s : Stretch) : Type 0 where
  pub some : s.from < s.to
  pub parts : pairs ≡ pairs_from s s.from ++ rest

-- The items after one, up to another, ask for the same as that one, and each is asked for with a first.
pub record AreAlikeTo (asked : Option (List ℕ)) (standing : List ℕ) (a b end : ℕ) : Type 0 where
  pub order : b < end
  pub within : end ≤ length standing
  pub same : (i : ℕ) → b < i → i < end → slice_index standing i ≡ slice_index standing b
  pub asks : (i : ℕ) → b < i → i < end → is_asked asked a i ≡ true
