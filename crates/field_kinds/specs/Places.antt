-- Where the fields of a list stand among all fields.
use Rattle.std.specs.Prelude.{◌≡◌, ℕ, ◌<◌, All, List, length, map, get_or}
use Rattle.std.specs.List.Sorted.{IsStrictlyIncreasing}

-- The fields of a list stand at these places of all fields, each after the one before it.
pub record ArePlaces (list fields places : List ℕ) : Type 0 where
  pub each : map (λ place. get_or fields place 0) places ≡ list
  pub within : All (λ place. place < length fields) places
  pub ascend : IsStrictlyIncreasing places
