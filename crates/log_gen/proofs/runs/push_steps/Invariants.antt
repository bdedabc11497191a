use Rattle.std.proofs.Common.{◌≡◌, ◌++◌}
use Rattle.log_gen.specs.Stencil as stencils
use Rattle.log_gen.proofs.runs.push_steps.Given as goal

abbrev pub invariant-loop-s : goal.invariant-loop-s
invariant-loop-s l = l.records.items ≡ l.fn.records.items ++ stencils.for_each l.s (stencils.step l.n)
