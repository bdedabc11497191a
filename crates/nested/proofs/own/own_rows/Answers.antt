use Rattle.std.proofs.Common.{◌∙◌}
use Rattle.nested.proofs.Asking.{own_step}
use Rattle.nested.proofs.own.own_rows.Goals as goal

pub loop-req-preserved : goal.loop-req-preserved
loop-req-preserved g c =
    c.in_ok-add_own.ensures
    ∙ own_step c.args.tables.now c.loop-req.rows.items c.reqs-req-items.result.now c.loop-req.req-index c.req-item.result c.loop-req.invariant c.loop-req-test.true c.req-item.is
