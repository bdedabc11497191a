use Rattle.std.proofs.Common.{refl, subst, sym}
use Rattle.event_graph.specs.Orders.{IsOrderOf}
use Rattle.log_findings.proofs.lemmas.Ends.{few_declared_items}
use Rattle.log_findings.proofs.ordered.tasks_found.Goals as goal

pub task_order-requires : goal.task_order-requires
task_order-requires g c =
    let sorted = c.requires.sorted in
    let replayed = subst (λ nodes. IsOrderOf nodes c.args.sorting.now.order) (sym sorted.graph) sorted.order in
    λ k. ((refl, tt), (few_declared_items c.args.log.now c.is_declared.ensures, (sorted.graph, replayed)))
