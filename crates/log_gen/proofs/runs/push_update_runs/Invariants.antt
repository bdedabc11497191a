use Rattle.std.proofs.Common.{◌≡◌, ◌++◌}
use Rattle.log_gen.specs.Stencil as stencils
use Rattle.log_gen.proofs.runs.push_update_runs.Given as goal

abbrev pub invariant-loop-i : goal.invariant-loop-i
invariant-loop-i l = l.records.items ≡ l.fn.records.items ++ stencils.for_each l.i (stencils.update_run l.n l.s)
