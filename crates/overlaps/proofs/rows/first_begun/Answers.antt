use Rattle.std.proofs.Common.{arith}
use Rattle.overlaps.proofs.Lists.{begun_more, begun_all}
use Rattle.overlaps.proofs.rows.first_begun.Goals as goal

pub loop-other-preserved : goal.loop-other-preserved
loop-other-preserved c =
    begun_more c.args.rects.now c.args.others.now c.loop-other.reached c.reach-reached.result c.loop-other.other-index c.requires.others c.loop-other.invariant c.loop-other-test.true
    c.reach-reached.ensures.reached c.reach-reached.ensures.past (omega (arith, c.from.ensures, c.if-from-reached.false))

pub returns : goal.returns
returns c = begun_all c.args.rects.now c.args.others.now c.loop-other.reached c.loop-other.other-index c.loop-other.invariant c.loop-other-test.false
