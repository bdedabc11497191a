use Rattle.licences.proofs.Meeting.{bounded_none}
use Rattle.licences.proofs.claim.are_bounded.Goals as goal

pub returns : goal.returns
returns g c = bounded_none g.P.PointSet.points g.met.P.PointSet.bounded c.args.set.now
