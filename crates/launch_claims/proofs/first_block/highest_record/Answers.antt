use Rattle.std.proofs.Common.{◌≡◌, ◌≤◌, List, Contains, take, subst, arith}
use Rattle.std.proofs.lemmas.List.{take_all}
use Rattle.launch_claims.specs.declared.block.Block.{Block}
use Rattle.launch_claims.proofs.Halving.{highest_more}
use Rattle.launch_claims.proofs.Nodes.{no_block}
use Rattle.launch_claims.proofs.first_block.highest_record.Goals as goal

pub loop-block-preserved : goal.loop-block-preserved
loop-block-preserved c = λ b h.
    let le = highest_more c.args.blocks.now c.loop-block.block-index c.loop-block.highest no_block c.loop-block-test.true
    c.loop-block.invariant b h in
    let is = c.max-highest.ensures in
    omega arith

pub returns : goal.returns
returns c =
    let blocks = c.args.blocks.now in
    let all : take c.loop-block.block-index blocks ≡ blocks = grind (arith, take_all) in
    subst (λ (bs : List Block). (b : Block) → Contains bs b → b.claim.record ≤ c.loop-block.highest) all c.loop-block.invariant
