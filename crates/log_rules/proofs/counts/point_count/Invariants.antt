use Rattle.std.proofs.Common.{◌≡◌, take, length}
use Rattle.vocabulary.specs.Prelude.{points_of}
use Rattle.log_limits.specs.Sums.{cut}
use Rattle.log_rules.proofs.counts.point_count.Given as goal

abbrev pub invariant-loop-run : goal.invariant-loop-run
invariant-loop-run l = l.count ≡ cut (length (points_of (take l.run-index l.runs)))
