use Rattle.std.proofs.Common.{◌≡◌, ◌∙◌, ◌++◌, ◌∷◌, [], ap, sym, arith, true, get_or, length, subst, None, Some}
use Rattle.vocabulary.specs.Prelude.{is_in}
use Rattle.point_kinds.proofs.Walking.{filter_last, filter_skip, goes_on, is_in_set, passed_over}
use Rattle.point_kinds.proofs.places.list_places.Goals as goal

pub returns-in_default : goal.returns-in_default
returns-in_default g c =
    let set = g.P.PointSet.points c.args.set.now in
    let points = c.args.points.now in
    c.loop-place.invariant.listed
    ∙ sym (filter_skip (λ k. is_in set (get_or points k 0)) c.loop-place.place (length points) c.loop-place.invariant.within
    (λ i le within. passed_over set points c.loop-place.place None c.requires c.in_default.ensures i le within tt))

pub loop-place-preserved-then-next-points : goal.loop-place-preserved-then-next-points
loop-place-preserved-then-next-points g c =
    let set = g.P.PointSet.points c.args.set.now in
    let points = c.args.points.now in
    let place = c.loop-place.place in
    let has = subst (λ p. is_in set p ≡ true) c.if-next-points.true (is_in_set set c.in-Some.next c.in-Some.ensures.0.0) in
    record {
      within = omega (arith, c.loop-place-test.true);
      listed =
          c.in_ok-push.ensures.items ∙ ap (λ ns. ns ++ place ∷ []) c.loop-place.invariant.listed
          ∙ sym (filter_last (λ k. is_in set (get_or points k 0)) place has);
    }

pub loop-place-preserved : goal.loop-place-preserved
loop-place-preserved g c =
    let set = g.P.PointSet.points c.args.set.now in
    let points = c.args.points.now in
    let place = c.loop-place.place in
    let end = c.place_from-place.result in
    let next = c.in-Some.next in
    let more = goes_on points place end next c.place_from-place.ensures.parts c.loop-place-test.true
    (λ is. c.if-next-points.false is) c.in-Some.ensures.0.1 in
    record {
      within = c.place_from-place.ensures.within;
      listed =
          c.loop-place.invariant.listed
          ∙ sym (filter_skip (λ k. is_in set (get_or points k 0)) place end (omega (arith, more))
          (λ i le lt. passed_over set points place (Some next) c.requires c.in-Some.ensures i le
          (omega (arith, lt, c.place_from-place.ensures.within)) (c.place_from-place.ensures.parts.0 i 0 (omega arith) lt)));
    }

pub loop-place-smaller : goal.loop-place-smaller
loop-place-smaller g c =
    let more = goes_on c.args.points.now c.loop-place.place c.place_from-place.result c.in-Some.next c.place_from-place.ensures.parts
    c.loop-place-test.true (λ is. c.if-next-points.false is) c.in-Some.ensures.0.1 in
    omega (arith, more, c.loop-place-test.true)
