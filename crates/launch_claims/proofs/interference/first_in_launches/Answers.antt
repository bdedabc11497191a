use Rattle.std.proofs.Common.{◌+◌, take, sym, subst}
use Rattle.launch_claims.specs.Interference.{InterferesAt, IsLeast}
use Rattle.launch_claims.proofs.Pairing.{launch_judged, launches_all, none_launched}
use Rattle.launch_claims.proofs.interference.first_in_launches.Goals as goal

pub loop-launch-init : goal.loop-launch-init
loop-launch-init g c = none_launched g.P.PointSet.points c.args.reqs.now

pub loop-launch-preserved : goal.loop-launch-preserved
loop-launch-preserved g c =
    let points = g.P.PointSet.points in
    let launches = c.args.launches.now in
    let reqs = c.args.reqs.now in
    let k = c.loop-launch.launch-index in
    subst (IsLeast (InterferesAt points (take (k + 1) launches) reqs)) (sym c.lesser-first.ensures)
    (launch_judged points launches reqs c.of_launch.result.now k _ c.loop-launch.first c.in_ok-next.next c.loop-launch-test.true
    c.of_launch.ensures c.loop-launch.invariant c.in_ok-next.ensures)

pub returns : goal.returns
returns g c = launches_all g.P.PointSet.points c.args.launches.now c.args.reqs.now c.loop-launch.launch-index c.loop-launch.first
    c.loop-launch-test.false c.loop-launch.invariant
