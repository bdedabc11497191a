use Rattle.std.proofs.Common.{map}
use Rattle.launches.specs.Uses.{space_by_record, space_seen}
use Rattle.launches.proofs.Listing.{filtered_all, filtered_more}
use Rattle.launches.proofs.uses.spaces_in.Goals as goal

pub loop-i-preserved : goal.loop-i-preserved
loop-i-preserved g c =
    let points = g.P.PointSet.points in
    filtered_more space_by_record c.args.lines.now c.args.written.now c.loop-i.i c.index-written-i.result
    (map (space_seen points) c.loop-i.spaces)
    (map (space_seen points) c.push_space.new.spaces) c.loop-i-test.true c.requires.lines c.index-written-i.is c.loop-i.invariant c.in_ok-push_space.ensures

pub returns : goal.returns
returns g c = filtered_all space_by_record c.args.lines.now c.args.written.now c.loop-i.i
    (map (space_seen g.P.PointSet.points) c.loop-i.spaces) c.loop-i-test.false c.loop-i.invariant
