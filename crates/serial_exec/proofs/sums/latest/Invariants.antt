use Rattle.std.proofs.Common.{◌≤◌, length}
use Rattle.serial_exec.proofs.sums.latest.Given as goal

abbrev pub invariant-loop-from : goal.invariant-loop-from
invariant-loop-from l = l.from ≤ length l.changes

abbrev pub decreases-loop-from : goal.decreases-loop-from
decreases-loop-from l = l.from
