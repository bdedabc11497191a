use Rattle.std.proofs.Common.{take}
use Rattle.launch_claims.specs.Blocks.{IsSeen}
use Rattle.launch_claims.proofs.node.has_wide_clash.Given as goal

abbrev pub invariant-loop-block : goal.invariant-loop-block
invariant-loop-block l = IsSeen l.lo l.hi l.seen (take l.block-index l.blocks)
