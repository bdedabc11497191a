use Rattle.std.proofs.Common.{◌≡◌, take, filter}
use Rattle.launch_claims.specs.Blocks.{goes_right}
use Rattle.launch_claims.proofs.node.right_half.Given as goal

abbrev pub invariant-loop-block : goal.invariant-loop-block
invariant-loop-block l = l.half.items ≡ filter (goes_right l.lo l.hi l.middle) (take l.block-index l.blocks)
