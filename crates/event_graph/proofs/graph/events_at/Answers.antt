use Rattle.std.proofs.Common.{◌≡◌, ◌∙◌, ap, get_or, sym, unwrap_or}
use Rattle.event_graph.specs.Orders.{event_at}
use Rattle.event_graph.proofs.lemmas.Placed.{map_more}
use Rattle.event_graph.proofs.graph.events_at.Goals as goal

pub loop-k-preserved : goal.loop-k-preserved
loop-k-preserved c =
    let event : c.event.result ≡ event_at c.args.graph.now (get_or c.args.ks.now c.loop-k.k-index 0) =
    sym (ap (λ o. unwrap_or o 0) c.event.ensures) in
    c.in_ok-push.ensures.items ∙ map_more (event_at c.args.graph.now) c.args.ks.now c.loop-k.k-index c.loop-k.events.items
    c.event.result c.loop-k-test.true c.loop-k.invariant event
