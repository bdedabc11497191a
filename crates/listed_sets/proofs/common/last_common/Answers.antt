use Rattle.std.proofs.Common.{◌+◌, filter, take, sym, ap, ◌∙◌, subst}
use Rattle.std.proofs.lemmas.List.{take_all}
use Rattle.point_set.specs.Least.{IsGreatestOf}
use Rattle.vocabulary.specs.Prelude.{is_in}
use Rattle.listed_sets.proofs.Along.{last_more, last_still}
use Rattle.listed_sets.proofs.Keeping.{same_test, turned}
use Rattle.listed_sets.proofs.common.last_common.Goals as goal
use Rattle.listed_sets.proofs.common.last_common.Goals.{then-has, else-has}

pub loop-point-preserved : goal.loop-point-preserved
loop-point-preserved g c =
    let points = g.P.PointSet.points c.args.set.now in
    let listed = c.args.listed.now in
    let i = c.loop-point.point-index in
    let lt = c.loop-point-test.true in
    let test = same_test points _ c.has.result c.has.ensures in
    let so_far = IsGreatestOf (filter (is_in points) (take (i + 1) listed)) in
    elim c.if-has.branch [
      | then-has w ↦ subst so_far (sym w.last-is) (last_more (is_in points) listed i lt c.requires (test ∙ w.if-has.true))
      | else-has w ↦ subst so_far (sym w.last-is)
          (last_still (is_in points) listed i lt c.loop-point.last (test ∙ w.if-has.false) c.loop-point.invariant)
    ]

pub returns : goal.returns
returns g c =
    let points = g.P.PointSet.points c.args.set.now in
    let listed = c.args.listed.now in
    subst (λ xs. IsGreatestOf xs c.loop-point.last)
    (ap (filter (is_in points)) (take_all c.loop-point.point-index listed c.loop-point-test.false)
    ∙ turned listed points c.requires (g.met.P.PointSet.ascends c.args.set.now))
    c.loop-point.invariant
