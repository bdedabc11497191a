use Rattle.std.proofs.Common.{◌+◌, ◌-◌, ◌≤◌}
use Rattle.launch_claims.specs.Claims.{HasClash, asked_below}
use Rattle.launch_claims.proofs.first.first_up_to.Given as goal

abbrev pub invariant-loop-low : goal.invariant-loop-low
invariant-loop-low l = record {
  order : l.low ≤ l.high;
  clash : HasClash (asked_below (l.high + 1) l.claims);
  none : ¬ HasClash (asked_below l.low l.claims);
}

abbrev pub decreases-loop-low : goal.decreases-loop-low
decreases-loop-low l = l.high - l.low
