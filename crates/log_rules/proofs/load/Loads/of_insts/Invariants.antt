use Rattle.std.proofs.Common.{◌≡◌, take, sum_by}
use Rattle.log_limits.specs.Sums.{cut}
use Rattle.log_rules.specs.Loads.{CountsBy, load_in, inst_load}
use Rattle.log_rules.proofs.load.Loads.of_insts.Given as goal

abbrev pub invariant-loop-inst : goal.invariant-loop-inst
invariant-loop-inst g l = CountsBy l.log.tables.now l.log.corners
    → l.load ≡ cut (sum_by (inst_load (load_in l.self) l.log.tables.now) (take l.inst-index l.log.tables.now.insts))
