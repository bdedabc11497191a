use Rattle.std.proofs.Common.{◌≡◌, ◌<◌, ◌+◌, ◌-◌, [], length, reverse}
use Rattle.semantics.specs.ReplayOrder.{walk}
use Rattle.event_graph.specs.Marked.{AreMarked}
use Rattle.event_graph.proofs.cycle_walk.walk_from.Given as goal

abbrev pub invariant-loop-round : goal.invariant-loop-round
invariant-loop-round l = record {
  same : walk l.graph (length l.graph + 1) [] l.start ≡ walk l.graph (length l.graph + 1 - l._round) (reverse l.trail.items) l.at;
  seen : AreMarked l.seen.items (length l.graph) (reverse l.trail.items);
  within : l.at < length l.graph;
}
