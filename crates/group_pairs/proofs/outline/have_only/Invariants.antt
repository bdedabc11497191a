use Rattle.std.proofs.Common.{◌≡◌, All, take}
use Rattle.licences.specs.Claims.{Claimed}
use Rattle.group_pairs.proofs.outline.have_only.Given as goal

abbrev pub invariant-loop-claim : goal.invariant-loop-claim
invariant-loop-claim g l = All (λ (c : Claimed). c.access ≡ l.access) (take l.claim-index l.claims)
