use Rattle.std.proofs.Common.{◌≡◌}
use Rattle.licences.specs.Claims.{Claimed}
use Rattle.group_pairs.proofs.Pairing.{all_more, all_taken}
use Rattle.group_pairs.proofs.outline.have_only.Goals as goal

pub loop-claim-preserved : goal.loop-claim-preserved
loop-claim-preserved g c =
    all_more (λ (d : Claimed). d.access
    ≡ c.args.access) c.args.claims.now c.loop-claim.claim-index c.claim-item.result c.loop-claim-test.true c.claim-item.is c.loop-claim.invariant (c.has_access.ensures c.if-not-has_access.false)

pub returns : goal.returns
returns g c = λ e. all_taken (λ (d : Claimed). d.access
    ≡ c.args.access) c.args.claims.now c.loop-claim.claim-index c.loop-claim-test.false c.loop-claim.invariant
