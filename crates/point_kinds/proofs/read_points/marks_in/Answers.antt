use Rattle.std.proofs.Common.{◌<◌, All, map, take, length, subst, sym, ◌∙◌}
use Rattle.log_tables.specs.Views.{space_seen}
use Rattle.point_kinds.specs.Marks.{AreMarked, MarksMore}
use Rattle.point_kinds.proofs.Marking.{marked_more, marked_still}
use Rattle.point_kinds.proofs.Telling.{places_within, seen_more}
use Rattle.point_kinds.proofs.read_points.marks_in.Goals as goal

pub loop-space-preserved-then-not-contains : goal.loop-space-preserved-then-not-contains
loop-space-preserved-then-not-contains g c =
    let seen = space_seen g.P.PointSet.points in
    let here = c.space-item.result in
    let i = c.loop-space.space-index in
    subst (λ ss. AreMarked ss c.args.ids.now c.args.points.now c.loop-space.marks.items)
    (sym (seen_more seen c.args.spaces.now i here c.loop-space-test.true c.space-item.is))
    (marked_still (map seen (take i c.args.spaces.now)) (seen here) c.args.ids.now c.args.points.now c.loop-space.marks.items
    (sym c.contains.ensures ∙ c.if-not-contains.true) c.loop-space.invariant)

pub mark-requires : goal.mark-requires
mark-requires g c =
    let points = c.args.points.now in
    let set = g.P.PointSet.points c.space-item.result.set in
    subst (λ n. All (λ k. k < n) c.deref.result.now) (sym c.loop-space.invariant.each)
    (subst (All (λ k. k < length points)) (sym (c.deref.ensures.value ∙ c.in_ok-list_places.ensures)) (places_within set points))

pub loop-space-preserved : goal.loop-space-preserved
loop-space-preserved g c =
    let seen = space_seen g.P.PointSet.points in
    let here = c.space-item.result in
    let i = c.loop-space.space-index in
    subst (λ ss. AreMarked ss c.args.ids.now c.args.points.now c.mark.new.marks.items)
    (sym (seen_more seen c.args.spaces.now i here c.loop-space-test.true c.space-item.is))
    (marked_more (map seen (take i c.args.spaces.now)) (seen here) c.args.ids.now c.args.points.now c.loop-space.marks.items c.mark.new.marks.items
    c.loop-space.invariant
    (subst (λ ks. MarksMore ks c.loop-space.marks.items c.mark.new.marks.items) (c.deref.ensures.value ∙ c.in_ok-list_places.ensures) c.mark.ensures))
