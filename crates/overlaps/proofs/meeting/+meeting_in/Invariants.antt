use Rattle.std.proofs.Common.{◌-◌}
use Rattle.overlaps.proofs.meeting.+meeting_in.Given as goal

abbrev pub decreases-meeting_in : goal.decreases-meeting_in
decreases-meeting_in l = l.hi - l.lo
