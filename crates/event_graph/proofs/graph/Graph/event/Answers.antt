use Rattle.std.proofs.Common.{◌∙◌, length, List, ℕ, ap, arith}
use Rattle.std.proofs.lemmas.Option.{slice_get-get_or}
use Rattle.event_graph.proofs.Nodes.{count_kept, events_kept}
use Rattle.event_graph.proofs.graph.Graph.event.Goals as goal

pub event_in-requires : goal.event_in-requires
event_in-requires c =
    let count = count_kept c.self.inside.done.items c.self.inside.sources c.self.invariant.each c.args.self.now c.self.view_is in
    let done = ap (λ (l : List ℕ). length l) c.as_slice.ensures.value in
    omega (arith, c.requires, count, done)

pub returns : goal.returns
returns c =
    let done = c.self.inside.done.items in
    let lists = c.self.inside.sources in
    let count = count_kept done lists c.self.invariant.each c.args.self.now c.self.view_is in
    rw (← c.self.view_is, c.event_in.ensures, c.as_slice.ensures.value) (events_kept done done lists c.self.invariant.each c.args.node
    ∙ slice_get-get_or done c.args.node 0 (omega (arith, c.requires, count)))
