use Rattle.std.proofs.Common.{◌↔◌, IsTrue, List, sym, subst, ◌∙◌}
use Rattle.launch_claims.specs.declared.block.Block.{Block}
use Rattle.launch_claims.specs.Blocks.{RowsClash}
use Rattle.launch_claims.proofs.Nodes.{narrow_told, wide_told}
use Rattle.launch_claims.proofs.node.clashes_next.Goals as goal

pub returns-then-spans : goal.returns-then-spans
returns-then-spans c = λ blocks.
    let told = subst (λ (bs : List Block). IsTrue c.rows_clash.result ↔ RowsClash bs c.args.block.now) c.as_slice.ensures.value
    c.rows_clash.ensures in
    wide_told c.args.lo c.args.hi c.args.seen.now blocks c.args.block.now c.rows_clash.result (sym c.spans.ensures ∙ c.if-spans.true) told

pub returns-else-spans : goal.returns-else-spans
returns-else-spans c = λ blocks.
    let b = c.rows_clash-else-spans.result in
    let told = subst (λ (bs : List Block). IsTrue b ↔ RowsClash bs c.args.block.now) c.as_slice-else-spans.ensures.value
    c.rows_clash-else-spans.ensures in
    narrow_told c.args.lo c.args.hi c.args.seen.now blocks c.args.block.now b (sym c.spans.ensures ∙ c.if-spans.false) told
