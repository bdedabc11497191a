-- Runs, one by one.
use Rattle.std.specs.Prelude.{ℕ, ◌+◌, ◌≤◌, List, [], ◌∷◌}

-- The first run begins at this number or after it, each run has a point, and ends before the next begins.
abbrev pub AreRunsFrom : ℕ → List (ℕ × ℕ) → Type 0
AreRunsFrom low [] = Unit {0}
AreRunsFrom low (run ∷ runs) = (low ≤ run.0) × (run.0 ≤ run.1) × AreRunsFrom (run.1 + 1) runs

-- The new runs begin after each number after which the old ones do.
abbrev pub BeginAs : List (ℕ × ℕ) → List (ℕ × ℕ) → Type 0
BeginAs old new = (low : ℕ) → AreRunsFrom low old → AreRunsFrom low new
