use Rattle.std.proofs.Common.{refl, sym, ◌∙◌}
use Rattle.launch_claims.proofs.Nodes.{narrow_seen, wide_seen}
use Rattle.launch_claims.proofs.node.with_next.Goals as goal

pub returns-in_ok-wide : goal.returns-in_ok-wide
returns-in_ok-wide c = λ blocks.
    wide_seen c.args.lo c.args.hi c.args.seen (record { any = c.in_ok-any.any; wide = c.in_ok-wide.wide }) blocks c.args.block.now
    (sym c.spans.ensures ∙ c.if-spans.true) c.in_ok-any.ensures c.in_ok-wide.ensures

pub returns-else-spans : goal.returns-else-spans
returns-else-spans c = λ blocks.
    narrow_seen c.args.lo c.args.hi c.args.seen (record { any = c.in_ok-any.any; wide = c.args.seen.wide }) blocks c.args.block.now
    (sym c.spans.ensures ∙ c.if-spans.false) c.in_ok-any.ensures refl
