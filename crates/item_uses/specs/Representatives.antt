-- Items that stand for items that ask for the same.
use Rattle.std.specs.Prelude.{◌≡◌, ℕ, ◌<◌, List, [], map, length, slice_index}
use Rattle.item_uses.specs.Usages.{Usage, usages_at}

-- What a requirement asks for, but for its points, which its space tells.
abbrev pub without_points : Usage → Usage
without_points u = record u { points = [] }

-- Two lists of requirements are the same but for their points.
abbrev pub AreAlike : List Usage → List Usage → Type 0
AreAlike qs rs = map without_points qs ≡ map without_points rs

-- For each item there is one that asks for the same.
pub record AreRepresentatives (representatives : List ℕ) (us : List (List Usage)) : Type 0 where
  pub each : length representatives ≡ length us
  pub same : (i : ℕ) → i < length us → usages_at us (slice_index representatives i) ≡ usages_at us i
