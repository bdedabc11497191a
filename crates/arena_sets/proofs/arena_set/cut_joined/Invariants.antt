use Rattle.std.proofs.Common.{◌≡◌, ℕ, ◌<◌, ◌++◌, ◌∷◌, length}
use Rattle.point_set.specs.Runs.{run_points, points_of}
use Rattle.arena_sets.specs.RunsFrom.{AreRunsFrom}
use Rattle.arena_sets.proofs.arena_set.cut_joined.Given as goal

abbrev pub invariant-loop-next : goal.invariant-loop-next
invariant-loop-next l = record {
  points : points_of l.runs ≡ run_points (l.first.0, l.last) ++ points_of l.rest;
  order : (low : ℕ) → AreRunsFrom low l.runs → AreRunsFrom low ((l.first.0, l.last) ∷ l.rest);
  shorter : length l.rest < length l.runs;
}

abbrev pub decreases-loop-next : goal.decreases-loop-next
decreases-loop-next l = length l.rest
