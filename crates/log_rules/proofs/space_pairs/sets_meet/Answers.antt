use Rattle.log_rules.proofs.Members.{meets-told}
use Rattle.log_rules.proofs.space_pairs.sets_meet.Goals as goal

pub returns : goal.returns
returns g c = meets-told c.meets.result (g.P.PointSet.points c.args.ours.now) (g.P.PointSet.points c.args.theirs.now) c.meets.ensures
