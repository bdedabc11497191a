use Rattle.event_graph.proofs.Inverted.{inverse}
use Rattle.event_graph.proofs.order.Order.of.Goals as goal

pub invariant_of-result : goal.invariant_of-result
invariant_of-result c =
    inverse c.args.count c.args.nodes.items c.in_ok-places.places.items c.requires.within c.requires.apart c.requires.whole c.in_ok-places.ensures.each (rw (← c.as_slice.ensures.value) c.in_ok-places.ensures.placed)
