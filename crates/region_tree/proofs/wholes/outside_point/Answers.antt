use Rattle.std.proofs.Common.{List, MatchOption, subst, sym}
use Rattle.std.proofs.lemmas.Result.{IfOk-weaker}
use Rattle.point_set.specs.declared.rect.Rect.{Rect}
use Rattle.overlaps.specs.Between.{AreApartFrom, IsCommon}
use Rattle.region_tree.specs.Wholes.{AreGaps, IsPointOutside, whole_at}
use Rattle.region_tree.proofs.Gapped.{gaps_small, gaps_some, point_told}
use Rattle.region_tree.proofs.wholes.outside_point.Goals as goal

pub common_point-requires-clause-theirs : goal.common_point-requires-clause-theirs
common_point-requires-clause-theirs g c =
    let points = whole_at c.args.decls.now c.args.i in
    let last = c.last_column-last.result in
    let gaps = c.as_slice.result.now in
    let are = subst (λ (rs : List Rect). AreGaps points last rs) (sym c.as_slice.ensures.value) c.in_ok-gaps.ensures in
    (are.order, gaps_small points last gaps are)

pub common_point-requires-clause-some_theirs : goal.common_point-requires-clause-some_theirs
common_point-requires-clause-some_theirs g c =
    let points = whole_at c.args.decls.now c.args.i in
    let last = c.last_column-last.result in
    gaps_some points last c.as_slice.result.now
    (subst (λ (rs : List Rect). AreGaps points last rs) (sym c.as_slice.ensures.value) c.in_ok-gaps.ensures)

pub returns : goal.returns
returns g c =
    let points = whole_at c.args.decls.now c.args.i in
    let last = c.last_column-last.result in
    let rects = c.args.rects.now in
    let gaps = c.as_slice.result.now in
    IfOk-weaker c.common_point.result (λ o. MatchOption o (AreApartFrom rects gaps) (IsCommon rects gaps))
    (IsPointOutside points rects) (λ o tells. point_told points last rects gaps o
    (subst (λ (rs : List Rect). AreGaps points last rs) (sym c.as_slice.ensures.value) c.in_ok-gaps.ensures)
    c.last_column-last.ensures c.requires.small tells) c.common_point.ensures
