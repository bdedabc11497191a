use Rattle.task_order.proofs.search.order_of_tasks.Goals as goal

pub kept_order-requires-clause-kept : goal.kept_order-requires-clause-kept
kept_order-requires-clause-kept g c =
    let none = c.none_noted.ensures c.if-none_noted.true in
    c.first_pair_is_shown.ensures.kept c.args.schedule.now.log.now (λ a b lt e. c.requires.schedule.kept a b lt e (none a) (none b))
