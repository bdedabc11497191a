use Rattle.std.proofs.Common.{Some, None, subst, length}
use Rattle.task_order.specs.Rows.{IsFoundBefore}
use Rattle.task_order.proofs.Looked.{is_first, all_kept}
use Rattle.task_order.proofs.search.order_by_rows.Goals as goal

pub kept_order-requires-clause-kept : goal.kept_order-requires-clause-kept
kept_order-requires-clause-kept g c =
    let t = c.args.schedule.now.log.now in
    let found : IsFoundBefore t (length t.items) None = subst (IsFoundBefore t (length t.items)) c.in-None.is c.in_ok-a.ensures in
    c.first_pair_is_shown.ensures.kept t (all_kept t found)

pub returns-in_ok-place-in-Some : goal.returns-in_ok-place-in-Some
returns-in_ok-place-in-Some g c =
    let t = c.args.schedule.now.log.now in
    let found : IsFoundBefore t (length t.items) (Some (c.in-Some.a, c.in-Some.b)) =
    subst (IsFoundBefore t (length t.items)) c.in-Some.is c.in_ok-a.ensures in (
      c.first_pair_is_shown.ensures.shown t c.in-Some.a c.in-Some.b (is_first t (c.in-Some.a, c.in-Some.b) found),
      c.in_ok-place-in-Some.ensures,
      found.0.order,
      found.0.high_is,
    )
