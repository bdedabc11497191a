use Rattle.std.proofs.Common.{sym}
use Rattle.log_rules.proofs.Climbs.{climbed_more}
use Rattle.log_rules.proofs.spaces.height.Goals as goal

pub loop-up-preserved : goal.loop-up-preserved
loop-up-preserved g c =
    climbed_more c.args.tables.now _ c.loop-up.up c.args.limit c.loop-up.at c.in-Some.above c.loop-up-test.true
    (sym c.in-Some.ensures) c.loop-up.invariant
