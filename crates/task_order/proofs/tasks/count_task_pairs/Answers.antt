use Rattle.std.proofs.Common.{◌∙◌, ap, sym, length}
use Rattle.task_order.proofs.Counted.{none_beyond, pairs_told}
use Rattle.task_order.proofs.tasks.count_task_pairs.Goals as goal

pub count_pairs-requires-clause-within : goal.count_pairs-requires-clause-within
count_pairs-requires-clause-within g c a b le =
    none_beyond c.args.log.now c.args.places.now c.requires.places.meet (length c.items.result.now) a b (ap length c.items.ensures) le

pub returns : goal.returns
returns g c =
    let t = c.args.log.now in
    pairs_told t c.args.places.now c.requires.places.meet (length c.items.result.now) c.in_ok-count.count (ap length c.items.ensures)
    c.in_ok-count.ensures ∙ sym (c.pairs_are_counted.ensures.sum t)
