use Rattle.std.proofs.Common.{◌≤◌, take, Contains}
use Rattle.launch_claims.specs.declared.block.Block.{Block}
use Rattle.launch_claims.proofs.first_block.highest_record.Given as goal

abbrev pub invariant-loop-block : goal.invariant-loop-block
invariant-loop-block l = (b : Block) → Contains (take l.block-index l.blocks) b → b.claim.record ≤ l.highest
