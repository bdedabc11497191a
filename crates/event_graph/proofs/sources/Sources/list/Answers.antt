use Rattle.std.proofs.Common.{◌∙◌}
use Rattle.event_graph.proofs.Flat.{list_kept}
use Rattle.event_graph.proofs.sources.Sources.list.Goals as goal

pub part-requires : goal.part-requires
part-requires c =
    let at = list_kept c.self.inside.numbers.items c.self.inside.starts.items c.self.invariant.0 c.self.invariant.1
    c.args.self.now c.self.view_is c.args.k c.requires in
    rw (c.as_slice-2.ensures.value, c.as_slice.ensures.value) (record { next = at.0; ascending = at.1; within = at.2 })

pub returns : goal.returns
returns c =
    let at = list_kept c.self.inside.numbers.items c.self.inside.starts.items c.self.invariant.0 c.self.invariant.1
    c.args.self.now c.self.view_is c.args.k c.requires in
    c.part.ensures ∙ rw (c.as_slice-2.ensures.value, c.as_slice.ensures.value) at.3
