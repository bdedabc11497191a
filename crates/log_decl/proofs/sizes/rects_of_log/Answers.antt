use Rattle.std.proofs.Common.{◌∙◌}
use Rattle.log_decl.proofs.Walking.{log_rects_more}
use Rattle.log_decl.proofs.sizes.rects_of_log.Goals as goal

pub loop-l-preserved : goal.loop-l-preserved
loop-l-preserved c =
    c.in_ok-extend_from_slice.ensures.items
    ∙ log_rects_more c.args.records.now c.loop-l.l-index c.l-item.result c.loop-l.all.items c.as_slice.result.now
    c.loop-l-test.true c.l-item.is c.loop-l.invariant (c.as_slice.ensures.value ∙ c.in_ok-rects.ensures)
