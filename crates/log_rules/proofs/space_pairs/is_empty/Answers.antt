use Rattle.std.proofs.Common.{Some, None}
use Rattle.log_rules.proofs.Members.{is_empty-told}
use Rattle.log_rules.proofs.space_pairs.is_empty.Goals as goal

pub returns-in-Some : goal.returns-in-Some
returns-in-Some g c = is_empty-told (Some c.in-Some.field-0) (g.P.PointSet.points c.args.set.now) c.in-Some.ensures

pub returns-in-None : goal.returns-in-None
returns-in-None g c = is_empty-told None (g.P.PointSet.points c.args.set.now) c.in-None.ensures
