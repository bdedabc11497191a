use Rattle.std.proofs.Common.{List, Contains, sym, subst}
use Rattle.launch_claims.specs.declared.block.Block.{Block}
use Rattle.launch_claims.specs.Blocks.{AreBlocks}
use Rattle.launch_claims.proofs.Blocking.{first_in_blocks, none_in_blocks}
use Rattle.launch_claims.proofs.interference.first_on_planes.Goals as goal

pub first_block_clash-requires : goal.first_block_clash-requires
first_block_clash-requires g c = λ b h. c.in_ok-blocks.ensures.wide b (subst (λ (bs : List Block). Contains bs b)
    c.as_slice.ensures.value h)

pub returns-in_default : goal.returns-in_default
returns-in_default g c =
    let points = g.P.PointSet.points in
    let launch = c.args.launch.now in
    let reqs = c.args.reqs.now in
    let are = subst (AreBlocks points launch reqs) (sym c.as_slice.ensures.value) c.in_ok-blocks.ensures in
    none_in_blocks points launch reqs c.as_slice.result.now c.in_ok-number.field-0 are c.in_ok-number.ensures c.in_default.is

pub returns : goal.returns
returns g c =
    let points = g.P.PointSet.points in
    let launch = c.args.launch.now in
    let reqs = c.args.reqs.now in
    let are = subst (AreBlocks points launch reqs) (sym c.as_slice.ensures.value) c.in_ok-blocks.ensures in
    first_in_blocks points launch reqs c.as_slice.result.now c.in_ok-number.field-0 c.in-Some.number c.is_late.result are
    c.in_ok-number.ensures c.in-Some.is c.is_late.ensures c.if-is_late.false
