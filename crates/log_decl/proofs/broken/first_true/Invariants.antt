use Rattle.std.proofs.Common.{◌≡◌, length}
use Rattle.log_decl.specs.RulesOf.{first_true}
use Rattle.log_decl.proofs.broken.first_true.Given as goal

abbrev pub invariant-loop-rest : goal.invariant-loop-rest
invariant-loop-rest l = first_true l.rest ≡ first_true l.tests

abbrev pub decreases-loop-rest : goal.decreases-loop-rest
decreases-loop-rest l = length l.rest
