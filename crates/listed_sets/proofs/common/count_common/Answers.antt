use Rattle.std.proofs.Common.{◌+◌, length, filter, sym, ap, ◌∙◌, arith}
use Rattle.std.proofs.lemmas.List.{take_all}
use Rattle.vocabulary.specs.Prelude.{is_in}
use Rattle.listed_sets.proofs.Along.{count_more, few_so_far, none_more}
use Rattle.listed_sets.proofs.Keeping.{same_test, turned}
use Rattle.listed_sets.proofs.common.count_common.Goals as goal
use Rattle.listed_sets.proofs.common.count_common.Goals.{then-has, else-has}

pub overflow_add-count : goal.overflow_add-count
overflow_add-count g c =
    let few = few_so_far (is_in (g.P.PointSet.points c.args.set.now)) c.args.listed.now c.loop-point.point-index c.loop-point-test.true in
    omega (arith, few, c.loop-point.invariant, c.loop-point-test.true)

pub loop-point-preserved : goal.loop-point-preserved
loop-point-preserved g c =
    let points = g.P.PointSet.points c.args.set.now in
    let listed = c.args.listed.now in
    let i = c.loop-point.point-index in
    let lt = c.loop-point-test.true in
    let test = same_test points _ c.has.result c.has.ensures in
    elim c.if-has.branch [
      | then-has w ↦ w.count-is ∙ ap (λ n. n + 1) c.loop-point.invariant
          ∙ sym (count_more (is_in points) listed i lt (test ∙ w.if-has.true))
      | else-has w ↦ w.count-is ∙ c.loop-point.invariant ∙ sym (ap length (none_more (is_in points) listed i lt (test ∙ w.if-has.false)))
    ]

pub returns : goal.returns
returns g c =
    let points = g.P.PointSet.points c.args.set.now in
    let listed = c.args.listed.now in
    c.loop-point.invariant
    ∙ ap (λ xs. length (filter (is_in points) xs)) (take_all c.loop-point.point-index listed c.loop-point-test.false)
    ∙ ap length (turned listed points c.requires (g.met.P.PointSet.ascends c.args.set.now))
