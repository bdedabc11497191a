use Rattle.std.proofs.Common.{subst}
use Rattle.point_set.specs.Least.{IsLeastFrom}
use Rattle.licences.specs.Claims.{Claimed}
use Rattle.licences.proofs.claim.Claim.next_from.Goals as goal

pub returns : goal.returns
returns g c = subst (λ (d : Claimed). IsLeastFrom d.points c.args.from c.next_in.result) c.self.view_is c.next_in.ensures
