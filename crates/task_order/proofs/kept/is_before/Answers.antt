use Rattle.std.proofs.Common.{inl, inr, arith}
use Rattle.task_order.proofs.Chains.{before_none}
use Rattle.task_order.proofs.kept.is_before.Goals.{then-a-len-via-then-a-len, then-a-len-via-else-a-len+then-b-len}
use Rattle.task_order.proofs.kept.is_before.Goals as goal

pub returns-then-a-len : goal.returns-then-a-len
returns-then-a-len c nodes are = (
  λ e. absurd cc,
  λ before. elim c.then-a-len.branch [
    | then-a-len-via-then-a-len w ↦ absurd (before_none c.args.reach.now c.args.a c.args.b
        (inl (omega (arith, w.if-a-len.true, c.len.ensures))) nodes are before)
    | then-a-len-via-else-a-len+then-b-len w ↦ absurd
        (before_none c.args.reach.now c.args.a c.args.b (inr (omega (arith, w.if-b-len.true, w.len-else-a-len.ensures))) nodes are before)
  ],
)
