use Rattle.std.proofs.Common.{◌≡◌, take}
use Rattle.region_tree.specs.Claims.{rects_kept}
use Rattle.region_tree.proofs.clashes.rects_kept.Given as goal

abbrev pub invariant-loop-claim : goal.invariant-loop-claim
invariant-loop-claim l = l.rects.items ≡ rects_kept l.asked l.limit (take l.claim-index l.claims)
