use Rattle.std.proofs.Common.{AllPairs, sym, subst, ◌∙◌}
use Rattle.std.proofs.lemmas.Bool.{ltb-true}
use Rattle.overlaps.specs.Meeting.{IsNoHigher}
use Rattle.region_tree.specs.declared.claims.Asked.TheVariants.{Within}
use Rattle.region_tree.specs.Wholes.{IsPointOutside, whole_at}
use Rattle.region_tree.proofs.Clashing.{held_tells, leaving_told, kept_order, kept_some, kept_fits}
use Rattle.region_tree.proofs.clashes.leaving_in.Goals as goal

pub outside_point-requires-clause-order : goal.outside_point-requires-clause-order
outside_point-requires-clause-order g c =
    subst (AllPairs IsNoHigher) (sym (c.as_slice.ensures.value ∙ c.in_ok-rects.ensures))
    (kept_order Within c.args.limit c.args.claims.now c.requires.ready c.requires.group)

pub outside_point-requires-clause-some : goal.outside_point-requires-clause-some
outside_point-requires-clause-some g c =
    kept_some Within c.args.limit c.args.claims.now c.as_slice.result.now c.requires.ready
    (c.as_slice.ensures.value ∙ c.in_ok-rects.ensures)

pub outside_point-requires-clause-small : goal.outside_point-requires-clause-small
outside_point-requires-clause-small g c =
    kept_fits Within c.args.limit c.args.claims.now c.as_slice.result.now c.requires.ready
    (c.as_slice.ensures.value ∙ c.in_ok-rects.ensures)

pub returns-in-Some-2 : goal.returns-in-Some-2
returns-in-Some-2 g c =
    let first = c.in-Some.first.now in
    let item = c.in-Some.ensures.item in
    let rects = c.as_slice.result.now in
    let whole = whole_at c.args.decls.now first.sub in
    let point = c.in-Some-2.point in
    let told = subst (IsPointOutside whole rects) c.in-Some-2.is c.in_ok-point.ensures in
    leaving_told c.args.decls.now c.args.limit c.args.claims.now first rects point c.owner_at.result c.requires.wholes
    c.requires.group (0, ltb-true _ _ (sym item.0), sym item.1) (c.as_slice.ensures.value ∙ c.in_ok-rects.ensures)
    told.0 told.1 c.owner_at.ensures

pub returns : goal.returns
returns g c =
    let first = c.in-Some.first.now in
    let item = c.in-Some.ensures.item in
    let rects = c.as_slice.result.now in
    let whole = whole_at c.args.decls.now first.sub in
    held_tells c.args.decls.now c.args.limit c.args.claims.now first rects c.requires.wholes c.requires.group
    (0, ltb-true _ _ (sym item.0), sym item.1) (c.as_slice.ensures.value ∙ c.in_ok-rects.ensures)
    (subst (IsPointOutside whole rects) c.in-None.is c.in_ok-point.ensures)
