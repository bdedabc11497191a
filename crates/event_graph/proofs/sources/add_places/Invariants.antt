use Rattle.std.proofs.Common.{◌≡◌, ◌++◌, map, take}
use Rattle.id_maps.specs.Entries.{entry_at}
use Rattle.event_graph.specs.EventPlaces.{place_or_zero}
use Rattle.event_graph.proofs.sources.add_places.Given as goal

abbrev pub invariant-loop-event : goal.invariant-loop-event
invariant-loop-event l =
    l.numbers.items ≡ l.fn.numbers.items ++ map (place_or_zero (entry_at l.places)) (take l.event-index l.events)
