use Rattle.std.proofs.Common.{subst}
use Rattle.point_set.specs.Least.{IsLeastGap}
use Rattle.licences.specs.Claims.{Claimed}
use Rattle.licences.proofs.claim.Claim.gap_from.Goals as goal

pub returns : goal.returns
returns g c = subst (λ (d : Claimed). IsLeastGap d.points c.args.from c.gap_in.result) c.self.view_is c.gap_in.ensures
