use Rattle.std.proofs.Common.{◌≡◌, ◌++◌, map, take}
use Rattle.region_tree.specs.Claims.{claim}
use Rattle.region_tree.proofs.claims.push_claims.Given as goal

abbrev pub invariant-loop-rect : goal.invariant-loop-rect
invariant-loop-rect l = l.claims.items ≡ l.fn.claims.items ++ map (claim l.group l.sub) (take l.rect-index l.rects)
