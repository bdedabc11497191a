use Rattle.std.proofs.Common.{take}
use Rattle.log_rules.specs.Loads.{AreLoads, CountsBy}
use Rattle.log_rules.proofs.load.Loads.of.Given as goal

abbrev pub invariant-loop-req : goal.invariant-loop-req
invariant-loop-req g l = CountsBy l.log.tables.now l.log.corners → AreLoads l.log.tables.now l.loads (take l.req-index l.log.tables.now.reqs)
