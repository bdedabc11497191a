use Rattle.std.proofs.Common.{refl}
use Rattle.std.proofs.lemmas.Bool.{both_ways}
use Rattle.launch_claims.proofs.Nodes.{comes_behind, no_block, none_spans, pass_done, pass_found, pass_more}
use Rattle.launch_claims.proofs.node.has_wide_clash.Goals as goal

pub returns-then-clashes_next : goal.returns-then-clashes_next
returns-then-clashes_next c =
    let blocks = c.args.blocks.now in
    let k = c.loop-block.block-index in
    let within = c.loop-block-test.true in
    let behind = comes_behind blocks k no_block c.requires within in
    let told = c.clashes_next.ensures _ c.loop-block.invariant behind in
    (λ _. pass_found c.args.lo c.args.hi blocks k no_block within (told.0 c.if-clashes_next.true), λ _. refl)

pub loop-block-preserved : goal.loop-block-preserved
loop-block-preserved c =
    let blocks = c.args.blocks.now in
    let k = c.loop-block.block-index in
    let within = c.loop-block-test.true in
    let behind = comes_behind blocks k no_block c.requires within in
    let told = c.clashes_next.ensures _ c.loop-block.invariant behind in
    pass_more c.args.lo c.args.hi c.in_ok-seen.seen blocks k no_block within
    (c.in_ok-seen.ensures _ c.loop-block.invariant behind (λ w. both_ways c.clashes_next.result c.if-clashes_next.false (told.1 w)))

pub returns : goal.returns
returns c = pass_done c.args.lo c.args.hi c.loop-block.seen c.args.blocks.now c.loop-block.block-index c.loop-block-test.false
    c.loop-block.invariant

pub returns-then-not-some_spans : goal.returns-then-not-some_spans
returns-then-not-some_spans c = none_spans c.args.lo c.args.hi c.args.blocks.now c.some_spans.result c.some_spans.ensures c.if-not-some_spans.true
