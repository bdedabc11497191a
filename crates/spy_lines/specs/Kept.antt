-- Lines of which some are kept.
use Rattle.std.specs.Prelude.{ℕ, List}

-- The bytes that are kept so far, and the lines that are still to come.
pub record Keeping : Type 0 where
  pub kept : List ℕ
  pub rest : List (List ℕ)
