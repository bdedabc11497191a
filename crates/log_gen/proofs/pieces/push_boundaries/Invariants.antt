use Rattle.std.proofs.Common.{◌≡◌, ◌++◌}
use Rattle.log_gen.specs.Stencil as stencils
use Rattle.log_gen.proofs.pieces.push_boundaries.Given as goal

abbrev pub invariant-loop-j : goal.invariant-loop-j
invariant-loop-j l = l.records.items ≡ l.fn.records.items ++ stencils.for_each l.j (stencils.boundary_spaces l.n)
