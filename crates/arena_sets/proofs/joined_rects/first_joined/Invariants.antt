use Rattle.std.proofs.Common.{◌<◌, ◌∷◌, length}
use Rattle.arena_sets.specs.Joined.{StandFor}
use Rattle.arena_sets.proofs.joined_rects.first_joined.Given as goal

abbrev pub invariant-loop-next : goal.invariant-loop-next
invariant-loop-next l = record {
  stand : StandFor l.rects (l.joined ∷ l.rest);
  shorter : length l.rest < length l.rects;
}

abbrev pub decreases-loop-next : goal.decreases-loop-next
decreases-loop-next l = length l.rest
