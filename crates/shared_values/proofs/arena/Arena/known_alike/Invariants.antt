use Rattle.std.proofs.Common.{◌≡◌, ◌<◌, length}
use Rattle.shared_values.specs.Arenas.{value_at}
use Rattle.shared_values.proofs.arena.Arena.known_alike.Given as goal

abbrev pub invariant-loop-at : goal.invariant-loop-at
invariant-loop-at l = record {
  known : l.at < length l.self;
  same : value_at l.self l.at ≡ value_at l.self l.id;
}

abbrev pub decreases-loop-at : goal.decreases-loop-at
decreases-loop-at l = l.at
