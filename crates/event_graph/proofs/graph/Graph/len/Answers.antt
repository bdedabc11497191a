use Rattle.std.proofs.Common.{◌∙◌, length, List, ℕ, ap, subst, arith}
use Rattle.id_maps.specs.Entries.{entry_at}
use Rattle.vocabulary.specs.Prelude.{AreLinked}
use Rattle.event_graph.specs.EventPlaces.{nodes_by}
use Rattle.event_graph.proofs.Nodes.{count_kept}
use Rattle.event_graph.proofs.Waited.{linked_from}
use Rattle.event_graph.proofs.graph.Graph.len.Goals as goal

pub returns-clause-count : goal.returns-clause-count
returns-clause-count c = ap (λ (l : List ℕ). length l) c.as_slice.ensures.value
    ∙ count_kept c.self.inside.done.items c.self.inside.sources c.self.invariant.each c.args.self.now c.self.view_is

pub returns-clause-few : goal.returns-clause-few
returns-clause-few c =
    let count = count_kept c.self.inside.done.items c.self.inside.sources c.self.invariant.each c.args.self.now c.self.view_is in
    omega (arith, c.self.invariant.few, count)

pub returns-clause-linked : goal.returns-clause-linked
returns-clause-linked c = subst AreLinked c.self.view_is
    (linked_from (nodes_by c.self.inside.done.items c.self.inside.done.items c.self.inside.sources)
    (entry_at c.self.inside.places) c.self.invariant.indexed)
