use Rattle.std.proofs.Common.{subst}
use Rattle.point_set.specs.Least.{IsLeastGap}
use Rattle.listed_sets.proofs.Keeping.{gap_both, gap_set, gap_list}
use Rattle.listed_sets.proofs.common.gap_common.Goals as goal

pub returns-in-Some-Some : goal.returns-in-Some-Some
returns-in-Some-Some g c =
    let listed = c.args.listed.now in
    let points = g.P.PointSet.points c.args.set.now in
    let p = c.args.p in
    gap_both listed points p c.in-Some-Some.one c.in-Some-Some.other c.min.result
    (subst (IsLeastGap points p) c.in-Some-Some.is-0 c.gap_from.ensures)
    (subst (IsLeastGap listed p) c.in-Some-Some.is-1
    (subst (λ xs. IsLeastGap xs p c.gap_from-gap.result) c.in-Some.ensures.points c.gap_from-gap.ensures))
    c.min.ensures

pub returns-in-Some-None : goal.returns-in-Some-None
returns-in-Some-None g c =
    let listed = c.args.listed.now in
    let points = g.P.PointSet.points c.args.set.now in
    let p = c.args.p in
    gap_set listed points p c.in-Some-None.one
    (subst (IsLeastGap points p) c.in-Some-None.is-0 c.gap_from.ensures)
    (subst (IsLeastGap listed p) c.in-Some-None.is-1
    (subst (λ xs. IsLeastGap xs p c.gap_from-gap.result) c.in-Some.ensures.points c.gap_from-gap.ensures))

pub returns-in-None-default : goal.returns-in-None-default
returns-in-None-default g c =
    let listed = c.args.listed.now in
    let points = g.P.PointSet.points c.args.set.now in
    let p = c.args.p in
    gap_list listed points p c.gap_from-gap.result
    (subst (IsLeastGap points p) c.in-None-default.is-0 c.gap_from.ensures)
    (subst (λ xs. IsLeastGap xs p c.gap_from-gap.result) c.in-Some.ensures.points c.gap_from-gap.ensures)
