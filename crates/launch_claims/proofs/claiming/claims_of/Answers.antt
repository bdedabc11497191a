use Rattle.std.proofs.Common.{[], ◌++◌, List, sym, ap, subst, ◌∙◌}
use Rattle.point_set.specs.declared.rect.Rect.{Rect}
use Rattle.launch_claims.specs.declared.requirement.Requirement.{Requirement}
use Rattle.launch_claims.specs.Claiming.{AreClaims, AreInFirstColumn, claims_by}
use Rattle.launch_claims.proofs.Claimed.{claims_all, claims_more, no_claims}
use Rattle.launch_claims.proofs.claiming.claims_of.Goals as goal

pub loop-req-init : goal.loop-req-init
loop-req-init g c =
    let points = g.P.PointSet.points in
    subst (AreClaims points c.args.launch.now []) (sym c.new-claims.ensures.items) (no_claims points c.args.launch.now)

pub loop-req-preserved : goal.loop-req-preserved
loop-req-preserved g c =
    let u = c.req-item.result in
    let k = c.loop-req.req-index in
    let within = c.loop-req-test.true in
    let old = c.loop-req.claims.items in
    let rects = c.in_ok-rects.rects.items in
    let launch = c.args.launch.now in
    let column = subst (λ (v : Requirement g.row.P.Denot). AreInFirstColumn (g.P.PointSet.points v.set)) (sym c.req-item.is)
    (c.requires k u within) in
    claims_more g.P.PointSet.points launch c.args.reqs.now k u rects old c.push_claims.new.claims.items within c.req-item.is column
    c.in_ok-rects.ensures
    (c.in_ok-push_claims.ensures ∙ ap (λ (rs : List Rect). old ++ claims_by launch u rs) c.as_slice.ensures.value) c.loop-req.invariant

pub returns : goal.returns
returns g c = claims_all g.P.PointSet.points c.args.launch.now c.args.reqs.now c.loop-req.req-index c.loop-req.claims.items
    c.loop-req-test.false c.loop-req.invariant
