use Rattle.std.proofs.Common.{◌≡◌, take}
use Rattle.launch_claims.specs.Blocks.{asked_up_to}
use Rattle.launch_claims.proofs.first_block.asked_up_to.Given as goal

abbrev pub invariant-loop-block : goal.invariant-loop-block
invariant-loop-block l = l.asked.items ≡ asked_up_to l.number (take l.block-index l.blocks)
