use Rattle.std.proofs.Common.{◌≤◌, take, Contains}
use Rattle.launch_claims.specs.declared.claim.Claim.{Claim}
use Rattle.launch_claims.proofs.first.highest_record.Given as goal

abbrev pub invariant-loop-claim : goal.invariant-loop-claim
invariant-loop-claim l = (c : Claim) → Contains (take l.claim-index l.claims) c → c.record ≤ l.highest
