use Rattle.std.proofs.Common.{◌∙◌, ◌==◌, sym, ap, slice_get, position, List, ℕ}
use Rattle.std.proofs.lemmas.Iterator.Adapters.{position_from-zero}
use Rattle.event_graph.proofs.Inverted.{found_place}
use Rattle.event_graph.proofs.order.Order.place.Goals as goal

pub returns-clause-place : goal.returns-clause-place
returns-clause-place c =
    c.number_at.ensures ∙ (ap (λ (ps : List ℕ). slice_get ps c.args.node) c.as_slice.ensures.value
    ∙ (found_place c.self.inside.nodes.items c.self.inside.places.items c.self.invariant c.args.node
    ∙ (sym (position_from-zero (λ m. m == c.args.node) c.self.inside.nodes.items)
    ∙ ap (λ (ns : List ℕ). position (λ m. m == c.args.node) ns) c.self.view_is)))
