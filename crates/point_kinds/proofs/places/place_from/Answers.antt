use Rattle.std.proofs.Common.{nat_lt, rules}
use Rattle.std.proofs.lemmas.Fn.{always_returns_same}
use Rattle.grid.proofs.lemmas.Within.{can_search_below, parted_below}
use Rattle.point_kinds.proofs.places.place_from.Goals as goal

pub returns-clause-parts : goal.returns-clause-parts
returns-clause-parts c =
    let points = c.args.points.now in
    parted_below c.args.p points c.partition_point.result
    (c.partition_point.ensures.partitioned (λ m. nat_lt m c.args.p) (always_returns_same _ _ _ (λ a r f called. search rules))
    (can_search_below c.args.p points c.requires))
