use Rattle.std.proofs.Common.{List, ap, subst, ◌∙◌}
use Rattle.point_set.specs.declared.rect.Rect.{Rect}
use Rattle.plane_gaps.specs.Gaps.{LeaveFree}
use Rattle.region_tree.specs.Wholes.{near, whole_at}
use Rattle.region_tree.proofs.Gapped.{gaps_told}
use Rattle.region_tree.proofs.wholes.gaps_up_to.Goals as goal

pub returns : goal.returns
returns g c =
    let rects = c.in_ok-rects.rects.items in
    let gaps = c.in_ok-gaps.gaps.items in
    let last = c.args.last in
    gaps_told (whole_at c.args.decls.now c.args.i) last rects gaps c.in_ok-gaps-2.gaps.items c.sort_by_row.new.rects.items
    c.ranges.last.fits c.in_ok-rects.ensures
    (subst (λ (rs : List Rect). LeaveFree rs gaps) c.as_slice.ensures.value c.in_ok-gaps.ensures)
    (c.in_ok-gaps-2.ensures ∙ ap (near last) c.as_slice-2.ensures.value)
    c.sort_by_row.ensures.claims c.sort_by_row.ensures.order
