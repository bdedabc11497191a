use Rattle.std.proofs.Common.{◌<◌, [], false, length, refl, subst}
use Rattle.list_lemmas.proofs.lemmas.Contained.{all_contained}
use Rattle.vocabulary.specs.Prelude.{AreLinked, graph_of}
use Rattle.event_graph.specs.Orders.{IsOrderOf}
use Rattle.reach_marks.proofs.lemmas.Marked.{by_marks}
use Rattle.semantics.specs.SerialOrder.{serial}
use Rattle.semantics.specs.Shown.{run_of}
use Rattle.cell_races.specs.Chained.{AreInTurnOf}
use Rattle.task_order.specs.Gathered.{in_order}
use Rattle.task_order.proofs.Stable.{stable}
use Rattle.task_order.proofs.Turned.{in_turn, listed_within}
use Rattle.task_order.proofs.scan.are_kept_by_waits.Goals as goal

pub runs_in_order-requires : goal.runs_in_order-requires
runs_in_order-requires g c = all_contained (λ item. item < length c.args.runs.now) (serial c.args.log.now)
    (listed_within c.args.log.now c.args.runs.now c.lists_items.ensures c.requires.runs)

pub returns : goal.returns
returns g c = λ kept.
    let t = c.args.log.now in
    let nodes = graph_of t.nodes in
    let runs = c.args.runs.now in
    let cell_accesses = c.args.cell_accesses.now in
    let first = c.requires.cell_accesses in
    let order = c.args.sorted.now.order.now in
    let is = subst (λ ns. IsOrderOf ns order) c.requires.graph c.requires.replayed in
    let linked = subst AreLinked c.requires.graph c.len-linked.ensures.linked in
    let turn : AreInTurnOf nodes (in_order runs t) cell_accesses =
    subst (λ ns. AreInTurnOf ns (in_order runs t) cell_accesses) c.requires.graph
    (rw (← c.in_ok-order.ensures, ← c.deref.ensures.value) (c.in_ok-turned.ensures kept)) in
    c.places_tell_of_tasks.ensures.kept t first.firsts first.are_firsts c.lists_items.ensures (λ a b p listed one other m less.
    stable nodes order c.places-placed.result.now is linked c.places-placed.ensures (run_of t a) (run_of t b) (λ not.
    by_marks nodes order c.places-placed.result.now is linked c.places-placed.ensures (λ marks are.
    not (in_turn t marks runs first.firsts cell_accesses [] (λ item. false) c.lists_items.ensures c.requires.runs are first.done (turn marks are)
    (λ item lt. refl) a b p listed one other m less refl refl))))
