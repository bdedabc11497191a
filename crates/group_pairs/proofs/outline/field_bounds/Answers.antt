use Rattle.std.proofs.Common.{ℕ, ◌≤◌, List, All, subst}
use Rattle.licences.specs.Claims.{Claimed}
use Rattle.group_pairs.proofs.Pairing.{all_more, all_taken, wider}
use Rattle.group_pairs.proofs.outline.field_bounds.Goals as goal

pub loop-claim-preserved : goal.loop-claim-preserved
loop-claim-preserved g c =
    let was = c.loop-claim.bounds in
    let now = c.widened-bounds.result in
    all_more (λ (d : Claimed). All (λ f. (now.0 ≤ f)
    × (f ≤ now.1)) d.fields) c.args.claims.now c.loop-claim.claim-index c.claim-item.result c.loop-claim-test.true c.claim-item.is
    (λ k d lt. wider was.0 was.1 now.0 now.1 _ c.widened-bounds.ensures.low c.widened-bounds.ensures.high (c.loop-claim.invariant k d lt))
    (subst (λ (fs : List ℕ). All (λ f. (now.0 ≤ f) × (f ≤ now.1)) fs) c.fields.ensures c.widened-bounds.ensures.fields)

pub returns : goal.returns
returns g c = all_taken (λ (d : Claimed). All (λ f. (c.loop-claim.bounds.0 ≤ f)
    × (f ≤ c.loop-claim.bounds.1)) d.fields) c.args.claims.now c.loop-claim.claim-index c.loop-claim-test.false c.loop-claim.invariant
