use Rattle.std.proofs.Common.{take}
use Rattle.region_tree.specs.Owners.{IsOwner}
use Rattle.region_tree.proofs.owners.owner_at.Given as goal

abbrev pub invariant-loop-claim : goal.invariant-loop-claim
invariant-loop-claim l = IsOwner l.asked l.limit l.point l.but (take l.claim-index l.claims) l.found
