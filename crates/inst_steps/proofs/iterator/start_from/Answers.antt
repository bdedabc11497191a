use Rattle.std.proofs.Common.{◌++◌, ◌+◌, sym, ap, ◌∙◌}
use Rattle.inst_steps.specs.Stepping.{rest_actions}
use Rattle.inst_steps.proofs.Sweeping.{one_sweep}
use Rattle.inst_steps.proofs.iterator.start_from.Goals as goal

pub returns-in-Some-clause-actions : goal.returns-in-Some-clause-actions
returns-in-Some-clause-actions g c =
    let t = c.args.log.now in
    let op = c.args.op.now in
    ap (λ rest. rest ++ rest_actions t op (c.loop-k.k + 1)) c.in-Some.ensures.actions ∙ sym (one_sweep t op c.loop-k.k)
    ∙ sym c.loop-k.invariant

pub loop-k-preserved : goal.loop-k-preserved
loop-k-preserved g c =
    let t = c.args.log.now in
    let op = c.args.op.now in
    c.loop-k.invariant ∙ one_sweep t op c.loop-k.k
    ∙ ap (λ rest. rest ++ rest_actions t op (c.loop-k.k + 1)) (sym c.in_default.ensures.actions)
