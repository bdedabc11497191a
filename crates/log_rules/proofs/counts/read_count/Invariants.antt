use Rattle.std.proofs.Common.{◌≡◌, take, sum_by}
use Rattle.log_rules.specs.Counts.{reads_of}
use Rattle.log_limits.specs.Sums.{cut}
use Rattle.log_rules.proofs.counts.read_count.Given as goal

abbrev pub invariant-loop-req : goal.invariant-loop-req
invariant-loop-req g l = l.count ≡ cut (sum_by (reads_of l.tables) (take l.req-index l.tables.reqs))
