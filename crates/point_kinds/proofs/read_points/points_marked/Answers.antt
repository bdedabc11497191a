use Rattle.std.proofs.Common.{◌≡◌, ◌∷◌, ◌++◌, [], Contains, get_or, length, sym, ap, ◌∙◌, subst, arith}
use Rattle.std.specs.List.Sorted.{IsStrictlyIncreasing}
use Rattle.point_kinds.proofs.Marking.{marked_upto, upto_ascend, upto_has, upto_more, upto_still}
use Rattle.point_kinds.proofs.read_points.points_marked.Goals as goal

pub loop-k-preserved-then-not-marks-k : goal.loop-k-preserved-then-not-marks-k
loop-k-preserved-then-not-marks-k c =
    c.loop-k.invariant ∙ sym (upto_still c.args.points.now c.args.marks.now c.loop-k.k c.if-not-marks-k.true)

pub loop-k-preserved : goal.loop-k-preserved
loop-k-preserved c =
    let points = c.args.points.now in
    let k = c.loop-k.k in
    c.in_ok-push.ensures.items ∙ ap (λ ps. ps ++ get_or points k 0 ∷ []) c.loop-k.invariant
    ∙ sym (upto_more points c.args.marks.now k c.if-not-marks-k.false)

pub returns-clause-ascend : goal.returns-clause-ascend
returns-clause-ascend c =
    let all : c.loop-k.k ≡ length c.args.points.now = omega (arith, c.loop-k-test.false, c.loop-k.auto.k-end) in
    subst IsStrictlyIncreasing (sym (c.loop-k.invariant ∙ ap (marked_upto c.args.points.now c.args.marks.now) all))
    (upto_ascend c.args.points.now c.args.marks.now c.requires.ascend)

pub returns-clause-marked : goal.returns-clause-marked
returns-clause-marked c k within marked =
    let all : c.loop-k.k ≡ length c.args.points.now = omega (arith, c.loop-k-test.false, c.loop-k.auto.k-end) in
    subst (λ ps. Contains ps (get_or c.args.points.now k 0)) (sym (c.loop-k.invariant ∙ ap (marked_upto c.args.points.now c.args.marks.now) all))
    (upto_has c.args.points.now c.args.marks.now k within marked)
