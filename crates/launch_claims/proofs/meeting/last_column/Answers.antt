use Rattle.std.proofs.Common.{◌≡◌, ◌≤◌, List, Contains, take, subst, arith}
use Rattle.std.proofs.lemmas.List.{take_all}
use Rattle.launch_claims.specs.declared.block.Block.{Block}
use Rattle.launch_claims.proofs.Halving.{last_more}
use Rattle.launch_claims.proofs.Nodes.{no_block}
use Rattle.launch_claims.proofs.meeting.last_column.Goals as goal

pub loop-block-preserved : goal.loop-block-preserved
loop-block-preserved c = λ b h.
    let le = last_more c.args.blocks.now c.loop-block.block-index c.loop-block.last no_block c.loop-block-test.true
    c.loop-block.invariant b h in
    let is = c.max-last.ensures in
    omega arith

pub returns : goal.returns
returns c =
    let blocks = c.args.blocks.now in
    let all : take c.loop-block.block-index blocks ≡ blocks = grind (arith, take_all) in
    subst (λ (bs : List Block). (b : Block) → Contains bs b → b.x1 ≤ c.loop-block.last) all c.loop-block.invariant
