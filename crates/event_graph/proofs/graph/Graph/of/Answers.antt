use Rattle.std.proofs.Common.{◌∙◌, ap, nat_eq}
use Rattle.id_maps.specs.Entries.{entry_at}
use Rattle.std.specs.List.{position_from}
use Rattle.event_graph.proofs.Kept.{kept, nodes_are, waits_placed}
use Rattle.event_graph.proofs.graph.Graph.of.Goals as goal

pub of-requires : goal.of-requires
of-requires c =
    waits_placed c.args.nodes.now c.requires.linked c.requires.few c.in_ok-done.done.items c.in_ok-done.ensures (entry_at c.in_ok-places.places)
    (λ e. c.in_ok-places.ensures e ∙ ap (position_from (nat_eq e) 0) c.as_slice.ensures.value)

pub invariant_of-result : goal.invariant_of-result
invariant_of-result c =
    kept c.args.nodes.now c.requires.linked c.requires.few c.in_ok-done.done.items c.in_ok-done.ensures (entry_at c.in_ok-places.places)
    (λ e. c.in_ok-places.ensures e ∙ ap (position_from (nat_eq e) 0) c.as_slice.ensures.value)
    c.in_ok-sources.sources c.in_ok-sources.ensures

pub returns : goal.returns
returns c =
    nodes_are c.args.nodes.now c.requires.linked c.requires.few c.in_ok-done.done.items c.in_ok-done.ensures (entry_at c.in_ok-places.places)
    (λ e. c.in_ok-places.ensures e ∙ ap (position_from (nat_eq e) 0) c.as_slice.ensures.value)
    c.in_ok-sources.sources c.in_ok-sources.ensures
