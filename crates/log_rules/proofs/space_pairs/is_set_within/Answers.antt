use Rattle.log_rules.proofs.Members.{is_within-told}
use Rattle.log_rules.proofs.space_pairs.is_set_within.Goals as goal

pub returns : goal.returns
returns g c = is_within-told c.within.result (g.P.PointSet.points c.args.ours.now) (g.P.PointSet.points c.args.theirs.now) c.within.ensures
