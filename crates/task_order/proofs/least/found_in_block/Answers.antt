use Rattle.std.proofs.Common.{◌≡◌, ◌+◌, ◌∙◌, Some, None, ap, subst, length, min}
use Rattle.task_order.specs.Rows.{IsFoundIn}
use Rattle.task_order.proofs.Looked.{some_found, none_found}
use Rattle.task_order.proofs.least.found_in_block.Goals as goal

pub returns-in-Some : goal.returns-in-Some
returns-in-Some g c =
    let t = c.args.schedule.now.log.now in
    let base = c.args.base in
    let rows : length c.deref.result.now ≡ c.min-count.result = ap length c.deref.ensures.value ∙ c.in_ok-rows.ensures.count in
    some_found t base (length c.items-items.result.now) c.min-count.result (ap length c.items-items.ensures) c.args.found
    (c.min-count.ensures ∙ ap (λ n. min n (base + 1024)) c.items_before.ensures) c.requires.found c.in-Some.pair
    (subst (λ n. IsFoundIn t base (base + 1024) n (Some c.in-Some.pair)) rows c.in-Some.ensures)

pub returns : goal.returns
returns g c =
    let t = c.args.schedule.now.log.now in
    let base = c.args.base in
    let rows : length c.deref.result.now ≡ c.min-count.result = ap length c.deref.ensures.value ∙ c.in_ok-rows.ensures.count in
    none_found t base (length c.items-items.result.now) c.min-count.result (ap length c.items-items.ensures) c.args.found
    (c.min-count.ensures ∙ ap (λ n. min n (base + 1024)) c.items_before.ensures) c.requires.found
    (subst (λ n. IsFoundIn t base (base + 1024) n None) rows c.in-None.ensures)
