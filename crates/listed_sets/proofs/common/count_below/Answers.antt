use Rattle.std.proofs.Common.{nat_lt, rules}
use Rattle.std.proofs.lemmas.Fn.{always_returns_same}
use Rattle.std.proofs.lemmas.List.Sorted.{IsPartitionedBy-ltb}
use Rattle.std.proofs.lemmas.Map.Keys.{non_decreasing_from_sorted, sorted_from_strictly_increasing}
use Rattle.point_set.proofs.lemmas.Ahead.{parted}
use Rattle.listed_sets.proofs.common.count_below.Goals as goal

pub returns-clause-below : goal.returns-clause-below
returns-clause-below c =
    let points = c.args.points.now in
    let risen = non_decreasing_from_sorted points (sorted_from_strictly_increasing points c.requires) in
    parted (λ q. q) c.args.p points c.partition_point.result
    (c.partition_point.ensures.partitioned (λ q. nat_lt q c.args.p) (always_returns_same _ _ _ (λ a r f called. search rules))
    (IsPartitionedBy-ltb (λ q. q) points c.args.p risen))
