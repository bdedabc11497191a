use Rattle.std.proofs.Common.{sym}
use Rattle.log_rules.proofs.Climbs.{missed_more}
use Rattle.log_rules.proofs.spaces.lies_below.Goals as goal

pub loop-up-preserved : goal.loop-up-preserved
loop-up-preserved g c =
    missed_more c.args.tables.now _ c.args.root c.loop-up._up c.args.limit c.loop-up.at c.in-Some.above c.loop-up-test.true
    (sym c.in-Some.ensures) c.if-at-root.false c.loop-up.invariant
