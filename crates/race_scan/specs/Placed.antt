-- Where the nodes of a log stand in its replay order.
use Rattle.std.specs.Prelude.{◌≡◌, ℕ, ◌<◌, List, length, slice_index, All, Contains}
use Rattle.reach_marks.specs.Reached.{Marks}
use Rattle.cell_races.specs.Ranks.{rank_in}

-- The order has all of so many nodes, each at its place.
pub record ArePlaced (count : ℕ) (order : List ℕ) (marks : Marks) : Type 0 where
  pub within : All (λ k. k < count) order
  pub whole : (k : ℕ) → k < count → Contains order k
  pub placed : (p : ℕ) → p < length order → rank_in marks (slice_index order p) ≡ p
