use Rattle.std.proofs.Common.{◌≡◌, ◌∷◌, ℕ, List, map, take}
use Rattle.id_maps.specs.Entries.{entry_at}
use Rattle.vocabulary.specs.Prelude.{Node}
use Rattle.event_graph.specs.EventPlaces.{place_or_zero}
use Rattle.event_graph.specs.FlatLists.{Fit, lists_from}
use Rattle.event_graph.proofs.sources.Sources.of.Given as goal

abbrev pub invariant-loop-node : goal.invariant-loop-node
invariant-loop-node l = record {
  ends : List ℕ;
  starts : l.starts.items ≡ 0 ∷ ends;
  fit : Fit 0 l.numbers.items ends;
  lists : lists_from 0 l.numbers.items ends
      ≡ map (λ (n : Node). map (place_or_zero (entry_at l.places)) n.waits) (take l.node-index l.nodes);
}
