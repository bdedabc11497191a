-- Points and fields, in the order in which they are gone over.
use Rattle.std.specs.Prelude.{ℕ, ◌+◌, List, ◌++◌, map, drop, filter, nat_le}
use Rattle.vocabulary.specs.Prelude.{grid}

-- The points after a point.
abbrev pub behind : List ℕ → ℕ → List ℕ
behind points point = filter (λ q. nat_le (point + 1) q) points

-- What is left of a grid from a point and the place of a field on.
abbrev pub grid_from : List ℕ → List ℕ → ℕ → ℕ → List (ℕ × ℕ)
grid_from points fields point place =
    map (λ f. (point, f)) (drop place fields) ++ grid (behind points point) fields
