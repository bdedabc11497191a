use Rattle.std.proofs.Common.{map}
use Rattle.launches.specs.Uses.{asked_by, space_seen, use_seen}
use Rattle.launches.proofs.Listing.{filtered_all, filtered_more}
use Rattle.launches.proofs.uses.requirements_in.Goals as goal

pub loop-i-preserved : goal.loop-i-preserved
loop-i-preserved g c =
    let points = g.P.PointSet.points in
    let asked = asked_by (map (space_seen points) c.args.spaces.now) in
    filtered_more asked c.args.lines.now c.args.written.now c.loop-i.i c.index-written-i.result
    (map (use_seen points) c.loop-i.reqs.items)
    (map (use_seen points) c.push_requirement.new.reqs.items) c.loop-i-test.true c.requires c.index-written-i.is c.loop-i.invariant c.in_ok-push_requirement.ensures

pub returns : goal.returns
returns g c =
    let points = g.P.PointSet.points in
    filtered_all (asked_by (map (space_seen points) c.args.spaces.now)) c.args.lines.now c.args.written.now c.loop-i.i
    (map (use_seen points) c.loop-i.reqs.items) c.loop-i-test.false c.loop-i.invariant
