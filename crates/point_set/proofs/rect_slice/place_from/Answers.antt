use Rattle.std.proofs.Common.{◌+◌, ◌*◌, ◌^◌, nat_lt, rules}
use Rattle.std.proofs.lemmas.Fn.{always_returns_same}
use Rattle.std.proofs.lemmas.List.Sorted.{IsPartitionedBy-ltb}
use Rattle.point_set.proofs.lemmas.Ahead.{parted}
use Rattle.point_set.specs.declared.rect.Rect.{Rect}
use Rattle.point_set.proofs.lemmas.Bands.{lasts_rise}
use Rattle.point_set.proofs.rect_slice.place_from.Goals as goal

pub returns : goal.returns
returns c =
    let rects = c.args.rects.now in
    parted (λ (r : Rect). r.x1 * 2 ^ 32 + r.y1) c.args.p rects c.partition_point.result
    (c.partition_point.ensures.partitioned (λ (r : Rect). nat_lt (r.x1 * 2 ^ 32 + r.y1) c.args.p)
    (always_returns_same _ _ _ (λ a r f called. search rules))
    (IsPartitionedBy-ltb (λ (r : Rect). r.x1 * 2 ^ 32 + r.y1) rects c.args.p (lasts_rise rects c.requires.0 c.requires.1)))
