use Rattle.std.proofs.Common.{◌≡◌, ◌++◌, length}
use Rattle.point_set.specs.Runs.{points_of}
use Rattle.arena_sets.specs.RunsFrom.{AreRunsFrom}
use Rattle.arena_sets.proofs.arena_set.RunSetArenaSet.place.Given as goal

abbrev pub invariant-loop-run : goal.invariant-loop-run
invariant-loop-run l = record {
  points : points_of (l.joined.items ++ l.rest) ≡ points_of l.runs;
  order : AreRunsFrom 0 (l.joined.items ++ l.rest);
}

abbrev pub decreases-loop-run : goal.decreases-loop-run
decreases-loop-run l = length l.rest
