use Rattle.std.proofs.Common.{List, sym, subst}
use Rattle.launch_claims.specs.declared.claim.Claim.{Claim}
use Rattle.launch_claims.specs.Claiming.{AreClaims}
use Rattle.launch_claims.proofs.Claimed.{first_clashes, none_clash, none_where_agreed}
use Rattle.launch_claims.proofs.interference.first_in_launch.Goals as goal

pub returns-then-all_agree : goal.returns-then-all_agree
returns-then-all_agree g c =
    none_where_agreed g.P.PointSet.points c.args.launch.now c.args.reqs.now (c.all_agree.ensures c.if-all_agree.true)

pub returns-in_default : goal.returns-in_default
returns-in_default g c =
    let points = g.P.PointSet.points in
    let launch = c.args.launch.now in
    let reqs = c.args.reqs.now in
    let are = subst (λ (cs : List Claim). AreClaims points launch reqs cs) (sym c.as_slice.ensures.value) c.in_ok-claims.ensures in
    none_clash points launch reqs c.as_slice.result.now c.in_ok-number.field-0 are c.in_ok-number.ensures.none c.in_default.is

pub returns : goal.returns
returns g c =
    let points = g.P.PointSet.points in
    let launch = c.args.launch.now in
    let reqs = c.args.reqs.now in
    let are = subst (λ (cs : List Claim). AreClaims points launch reqs cs) (sym c.as_slice.ensures.value) c.in_ok-claims.ensures in
    first_clashes points launch reqs c.as_slice.result.now c.in_ok-number.field-0 c.in-Some.number c.is_late.result are
    c.in_ok-number.ensures.found c.in-Some.is c.is_late.ensures c.if-is_late.false
