use Rattle.std.proofs.Common.{◌≡◌, take, sum_by}
use Rattle.vocabulary.specs.Prelude.{records_of}
use Rattle.semantics.specs.Rules.{accesses}
use Rattle.log_limits.specs.Corners.{IfCounted}
use Rattle.log_limits.specs.Sums.{cut}
use Rattle.log_limits.proofs.totals.access_total.Given as goal

abbrev pub invariant-loop-l : goal.invariant-loop-l
invariant-loop-l x = IfCounted x.corners (λ t. x.total ≡ cut (sum_by (accesses t) (records_of (take x.l-index x.records))))
