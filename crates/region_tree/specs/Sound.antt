-- Declarations in which nothing is wrong.
use Rattle.std.specs.Prelude.{ℕ}
use Rattle.log_tables.specs.Regions.{Regions}
use Rattle.region_tree.specs.Faults.{IsFaulty}
use Rattle.region_tree.specs.Shape.{IsForest}

-- The declarations make a forest, and no subspace is faulty.
pub record IsSound (d : Regions) : Type 0 where
  pub forest : IsForest d
  pub faultless : (i : ℕ) → ¬ IsFaulty d i
