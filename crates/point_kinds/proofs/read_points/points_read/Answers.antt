use Rattle.std.proofs.Common.{◌∙◌, IfSome, false, map, get_or, sym, ap, subst}
use Rattle.log_tables.specs.Views.{space_seen}
use Rattle.point_laws.specs.Alike.{AreReadFirsts}
use Rattle.point_laws.proofs.lemmas.Values.{read_firsts}
use Rattle.point_kinds.specs.Marks.{AreMarked, AreSpacesRead}
use Rattle.point_kinds.proofs.Marking.{marked_read}
use Rattle.point_kinds.proofs.read_points.points_read.Goals as goal

pub returns-in-Some-clause-firsts : goal.returns-in-Some-clause-firsts
returns-in-Some-clause-firsts g c =
    let seen = space_seen g.P.PointSet.points in
    let t = c.args.log.now in
    let points = c.args.points.now in
    let marks = c.in-Some.marks.items in
    let are = subst (λ r. IfSome r (λ marks. AreMarked (map seen c.spaces.result.now) c.in_ok-ids.ids points marks.items)) c.in-Some.is
    c.in_ok-marks.ensures in
    marked_read t c.in_ok-ids.ids points c.in_ok-some-in-Some.some.items marks c.requires.firsts
    (subst (λ rs. AreSpacesRead rs c.in_ok-ids.ids) c.reqs.ensures.reqs c.in_ok-ids.ensures)
    (subst (λ ss. AreMarked ss c.in_ok-ids.ids points marks) (c.spaces.ensures ∙ ap (λ t. t.spaces) c.tables.ensures) are)
    (λ k within e. c.in_ok-some-in-Some.ensures.marked k within (ap (λ ms. get_or ms k false) c.as_slice.ensures.value ∙ e))

pub returns-clause-firsts : goal.returns-clause-firsts
returns-clause-firsts g c = subst (AreReadFirsts c.args.log.now) (sym c.in_ok-all-in-None.ensures.items)
    (read_firsts c.args.log.now c.args.points.now c.requires.firsts)
