use Rattle.std.proofs.Common.{◌-◌}
use Rattle.launch_claims.proofs.meeting.+some_clash.Given as goal

abbrev pub decreases-some_clash : goal.decreases-some_clash
decreases-some_clash l = l.hi - l.lo
