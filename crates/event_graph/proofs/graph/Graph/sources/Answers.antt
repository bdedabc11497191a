use Rattle.std.proofs.Common.{arith, subst}
use Rattle.id_maps.specs.Entries.{entry_at}
use Rattle.vocabulary.specs.Prelude.{AreLinked}
use Rattle.event_graph.specs.EventPlaces.{nodes_by}
use Rattle.event_graph.proofs.Nodes.{count_kept, sources_kept}
use Rattle.event_graph.proofs.Waited.{linked_from}
use Rattle.event_graph.proofs.graph.Graph.sources.Goals as goal

pub list-requires : goal.list-requires
list-requires c =
    let count = count_kept c.self.inside.done.items c.self.inside.sources c.self.invariant.each c.args.self.now c.self.view_is in
    omega (arith, c.requires, count, c.self.invariant.each)

pub returns-clause-sources : goal.returns-clause-sources
returns-clause-sources c =
    let done = c.self.inside.done.items in
    let lists = c.self.inside.sources in
    rw (c.list.ensures, ← c.self.view_is)
    (sources_kept done lists c.self.invariant.each c.args.node (c.self.invariant.within c.args.node))

pub returns-clause-linked : goal.returns-clause-linked
returns-clause-linked c = subst AreLinked c.self.view_is
    (linked_from (nodes_by c.self.inside.done.items c.self.inside.done.items c.self.inside.sources)
    (entry_at c.self.inside.places) c.self.invariant.indexed)
