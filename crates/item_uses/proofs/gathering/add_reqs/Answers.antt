use Rattle.std.proofs.Common.{sym, ◌∙◌, ap, length, take}
use Rattle.item_uses.proofs.lemmas.Growing.{with_reqs, usages_length, usages_without_reqs, usages_step}
use Rattle.item_uses.proofs.gathering.add_reqs.Goals as goal

pub loop-req-init : goal.loop-req-init
loop-req-init g c = c.requires ∙ sym (usages_without_reqs c.args.tables.now)

pub add_req-requires-clause-each : goal.add_req-requires-clause-each
add_req-requires-clause-each g c = ap length c.loop-req.invariant
    ∙ usages_length (with_reqs c.args.tables.now (take c.loop-req.req-index c.reqs-req-items.result.now))

pub loop-req-preserved : goal.loop-req-preserved
loop-req-preserved g c =
    c.in_ok-add_req.ensures
    ∙ usages_step c.args.tables.now c.loop-req.items.items c.reqs-req-items.result.now c.loop-req.req-index c.req-item.result c.loop-req.invariant c.loop-req-test.true c.req-item.is
