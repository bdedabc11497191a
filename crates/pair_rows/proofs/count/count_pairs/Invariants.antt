use Rattle.std.proofs.Common.{◌≡◌, ◌+◌, ◌-◌, ◌≤◌}
use Rattle.pair_rows.specs.Counting.{sum_below}
use Rattle.pair_rows.specs.Meetings.{met_below}
use Rattle.pair_rows.proofs.count.count_pairs.Given as goal

abbrev pub invariant-loop-base : goal.invariant-loop-base
invariant-loop-base l = record {
  within : l.base ≤ l.items + 1024;
  count : l.count ≡ sum_below (met_below l.places l.base) l.items;
}

abbrev pub decreases-loop-base : goal.decreases-loop-base
decreases-loop-base l = l.items + 1024 - l.base
