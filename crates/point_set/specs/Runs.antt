-- Runs of points, each a pair of its first and its last point.
use Rattle.std.specs.Prelude.{ℕ, ◌+◌, ◌-◌, ◌<◌, ◌≤◌, ◌==◌, List, [], ◌∷◌, All, length, if◌then◌else◌}
use Rattle.std.specs.List.{AllAdjacentBelow, range_with_len, flat_map}

-- The points of a run.
abbrev pub run_points : ℕ × ℕ → List ℕ
run_points run = range_with_len run.0 (run.1 + 1 - run.0)

-- The points of runs, one run after the other.
abbrev pub points_of : List (ℕ × ℕ) → List ℕ
points_of runs = flat_map run_points runs

-- Each run has a point, and ends before the next begins.
abbrev pub AreRuns : List (ℕ × ℕ) → Type 0
AreRuns runs = All (λ run. run.0 ≤ run.1) runs
    × AllAdjacentBelow (λ run next. run.1 < next.0) runs (length runs)

-- A number lies between each run and the next.
abbrev pub AreApart : List (ℕ × ℕ) → Type 0
AreApart runs = AllAdjacentBelow (λ run next. run.1 + 1 < next.0) runs (length runs)

-- One run more at the front: it and the next are one run where they touch.
abbrev pub with_run : ℕ × ℕ → List (ℕ × ℕ) → List (ℕ × ℕ)
with_run run [] = run ∷ []
with_run run (next ∷ runs) = if run.1 + 1 == next.0 then (run.0, next.1) ∷ runs else run ∷ next ∷ runs

-- The maximal runs of an ascending list.
abbrev pub maximal_runs : List ℕ → List (ℕ × ℕ)
maximal_runs [] = []
maximal_runs (p ∷ ps) = with_run (p, p) (maximal_runs ps)
