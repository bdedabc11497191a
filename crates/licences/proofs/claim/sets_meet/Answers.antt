use Rattle.licences.proofs.Meeting.{meets_told}
use Rattle.licences.proofs.claim.sets_meet.Goals as goal

pub returns : goal.returns
returns g c = meets_told c.meets.result (g.P.PointSet.points c.args.ours.now) (g.P.PointSet.points c.args.theirs.now) c.meets.ensures
