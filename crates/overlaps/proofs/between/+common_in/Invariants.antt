use Rattle.std.proofs.Common.{◌-◌}
use Rattle.overlaps.proofs.between.+common_in.Given as goal

abbrev pub decreases-common_in : goal.decreases-common_in
decreases-common_in l = l.hi - l.lo
