use Rattle.std.proofs.Common.{◌+◌, ◌<◌, All, map, take, length, subst, sym, ap, ◌∙◌, arith}
use Rattle.std.specs.List.Sorted.{IsStrictlyIncreasing}
use Rattle.log_tables.specs.Views.{space_seen}
use Rattle.vocabulary.specs.Prelude.{is_in}
use Rattle.partings.specs.Parted.{IsParted}
use Rattle.point_kinds.specs.Kinds.{AreKinds, shares}
use Rattle.point_kinds.proofs.Telling.{kinds_more, places_ascend, places_within, seen_more, shares_more, shares_most}
use Rattle.point_kinds.proofs.kinds.kinds_of.Goals as goal

pub returns-then-len-most-clause-none : goal.returns-then-len-most-clause-none
returns-then-len-most-clause-none g c =
    let seen = space_seen g.P.PointSet.points in
    let points = c.args.points.now in
    let spaces = c.args.spaces.now in
    let i = c.loop-space.space-index in
    let here = c.space-item.result in
    let most = shares_most seen spaces points (i + 1) in
    let more = ap (λ ss. shares ss points) (seen_more seen spaces i here c.loop-space-test.true c.space-item.is)
    ∙ shares_more (map seen (take i spaces)) (seen here) points in
    let len = ap length c.in_ok-list_places.ensures in
    omega (arith, most, more, len, c.loop-space.invariant.counted, c.if-len-most.true, c.len.ensures)

pub part-requires-clause-places : goal.part-requires-clause-places
part-requires-clause-places g c =
    let points = c.args.points.now in
    let set = g.P.PointSet.points c.space-item.result.set in
    subst (λ n. All (λ k. k < n) c.deref.result.now) (sym c.loop-space.invariant.kinds.each)
    (subst (All (λ k. k < length points)) (sym (c.deref.ensures.value ∙ c.in_ok-list_places.ensures)) (places_within set points))

pub part-requires-clause-ascend : goal.part-requires-clause-ascend
part-requires-clause-ascend g c =
    subst IsStrictlyIncreasing (sym (c.deref.ensures.value ∙ c.in_ok-list_places.ensures))
    (places_ascend (g.P.PointSet.points c.space-item.result.set) c.args.points.now)

pub loop-space-preserved : goal.loop-space-preserved
loop-space-preserved g c =
    let seen = space_seen g.P.PointSet.points in
    let points = c.args.points.now in
    let spaces = c.args.spaces.now in
    let i = c.loop-space.space-index in
    let here = c.space-item.result in
    let listed = c.deref.ensures.value ∙ c.in_ok-list_places.ensures in
    let one_more = seen_more seen spaces i here c.loop-space-test.true c.space-item.is in
    let more = ap (λ ss. shares ss points) one_more ∙ shares_more (map seen (take i spaces)) (seen here) points in
    let len = ap length listed in
    let parted = subst (λ ps. IsParted (is_in ps) c.loop-space.numbers.items c.part.new.numbers.items) listed c.in_ok-part.ensures.parted in
    record {
      kinds = subst (λ ss. AreKinds ss points c.part.new.numbers.items) (sym one_more)
          (kinds_more (map seen (take i spaces)) (seen here) points c.loop-space.numbers.items c.part.new.numbers.items
          c.loop-space.invariant.kinds parted);
      below = λ k d lt. let below = c.in_ok-part.ensures.below k d lt in omega (arith, below, c.len-end.ensures, c.deref.ensures.len);
      counted = omega (arith, more, len, c.len-end.ensures, c.deref.ensures.len, c.loop-space.invariant.counted);
      few = omega (arith, c.if-len-most.false, c.loop-space.invariant.few, c.len-end.ensures, c.len.ensures);
    }
