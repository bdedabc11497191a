use Rattle.std.proofs.Common.{◌∙◌, ◌++◌, ◌∷◌, [], sym, ap, subst, take, arith}
use Rattle.std.proofs.lemmas.List.{take_more}
use Rattle.task_order.specs.Gathered.{AreDoneBy}
use Rattle.task_order.proofs.Adding.{done_more}
use Rattle.task_order.proofs.task_cell_accesses.cell_accesses_at_points.Goals as goal

pub loop-req-preserved : goal.loop-req-preserved
loop-req-preserved g c =
    let reqs = c.reqs-req-items.result.now in
    let h = done_more c.args.log.now c.args.points.now
    (take c.loop-req.req-index reqs) c.req-item.result c.loop-req.cell_accesses.items
    c.push_req.new.cell_accesses.items c.loop-req.invariant c.in_ok-push_req.ensures in
    let more = take_more reqs c.loop-req.req-index c.req-item.result (omega arith) in
    subst (λ rs. AreDoneBy c.args.log.now c.args.points.now rs c.push_req.new.cell_accesses.items)
    (ap (λ r. take c.loop-req.req-index reqs ++ r ∷ []) c.req-item.is ∙ sym more) h
