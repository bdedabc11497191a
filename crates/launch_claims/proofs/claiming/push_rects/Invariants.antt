use Rattle.std.proofs.Common.{◌≡◌, ◌++◌, map, take}
use Rattle.launch_claims.specs.Blocks.{block_of}
use Rattle.launch_claims.proofs.claiming.push_rects.Given as goal

abbrev pub invariant-loop-rect : goal.invariant-loop-rect
invariant-loop-rect l = l.blocks.items ≡ l.fn.blocks.items ++ map (block_of l.claim) (take l.rect-index l.rects)
