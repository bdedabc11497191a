use Rattle.std.proofs.Common.{refl}
use Rattle.launch_claims.proofs.Claimed.{column_told, none_in_column}
use Rattle.launch_claims.proofs.claiming.is_in_first_column.Goals as goal

pub returns-in-Some : goal.returns-in-Some
returns-in-Some g c = column_told (g.P.PointSet.points c.args.set.now) c.in-Some.last c.in-Some.ensures

pub returns-in-None : goal.returns-in-None
returns-in-None g c = (λ _. none_in_column (g.P.PointSet.points c.args.set.now) c.in-None.ensures, λ _. refl)
