use Rattle.std.proofs.Common.{◌-◌, ◌<◌, ◌≤◌}
use Rattle.region_tree.specs.Claims.{NoneFails}
use Rattle.region_tree.proofs.clashes.first_failing.Given as goal

abbrev pub invariant-loop-high : goal.invariant-loop-high
invariant-loop-high g l = record {
  order : l.low < l.high;
  within : l.high ≤ l.count;
  none : NoneFails l.decls l.asked l.low l.claims;
  some : ¬ NoneFails l.decls l.asked l.high l.claims;
}

abbrev pub decreases-loop-high : goal.decreases-loop-high
decreases-loop-high g l = l.high - l.low
