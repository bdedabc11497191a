use Rattle.std.proofs.Common.{subst, []}
use Rattle.std.specs.Option.{option_map_or}
use Rattle.point_set.specs.Least.{IsLeastOutside}
use Rattle.licences.specs.Claims.{Claimed}
use Rattle.licences.proofs.claim.Claim.outside.Goals as goal

pub returns : goal.returns
returns g c =
    let given = subst (λ (d : Claimed). IsLeastOutside (option_map_or g.P.PointSet.points c.self.inside.set []) d.points c.outside_in.result)
    c.other.view_is c.outside_in.ensures in
    subst (λ (d : Claimed). IsLeastOutside d.points c.args.other.now.points c.outside_in.result) c.self.view_is given
