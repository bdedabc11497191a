use Rattle.std.proofs.Common.{◌≡◌}
use Rattle.inst_steps.specs.Stepping.{rest_actions}
use Rattle.inst_steps.proofs.iterator.start_from.Given as goal

-- What the sweeps so far do is nothing.
abbrev pub invariant-loop-k : goal.invariant-loop-k
invariant-loop-k g l = rest_actions l.log l.op l.from ≡ rest_actions l.log l.op l.k
