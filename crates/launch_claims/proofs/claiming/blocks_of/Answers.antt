use Rattle.std.proofs.Common.{[], ◌++◌, ℕ, List, map, sym, ap, subst, ◌∙◌}
use Rattle.std.specs.List.{flat_map}
use Rattle.point_set.specs.declared.rect.Rect.{Rect}
use Rattle.launch_claims.specs.Blocks.{AreBlocks, block_of}
use Rattle.launch_claims.specs.Claiming.{claim_on}
use Rattle.launch_claims.proofs.Blocking.{blocks_all, blocks_more, no_blocks}
use Rattle.launch_claims.proofs.claiming.blocks_of.Goals as goal

pub loop-req-init : goal.loop-req-init
loop-req-init g c =
    let points = g.P.PointSet.points in
    subst (AreBlocks points c.args.launch.now []) (sym c.new-blocks.ensures.items) (no_blocks points c.args.launch.now)

pub loop-req-preserved : goal.loop-req-preserved
loop-req-preserved g c =
    let u = c.req-item.result in
    let k = c.loop-req.req-index in
    let old = c.loop-req.blocks.items in
    let rects = c.in_ok-rects.rects.items in
    let launch = c.args.launch.now in
    blocks_more g.P.PointSet.points launch c.args.reqs.now k u rects old c.push_blocks.new.blocks.items c.loop-req-test.true c.req-item.is
    c.in_ok-rects.ensures
    (c.in_ok-push_blocks.ensures ∙ ap (λ (rs : List Rect). old
    ++ flat_map (λ (field : ℕ). map (block_of (claim_on launch u field)) rs) u.fields.now) c.as_slice.ensures.value) c.loop-req.invariant

pub returns : goal.returns
returns g c = blocks_all g.P.PointSet.points c.args.launch.now c.args.reqs.now c.loop-req.req-index c.loop-req.blocks.items
    c.loop-req-test.false c.loop-req.invariant
