use Rattle.std.proofs.Common.{◌≡◌, ◌+◌, drop}
use Rattle.semantics.specs.Counts.{read_count}
use Rattle.replay.specs.Counts.{reads_in}
use Rattle.replay.proofs.counting.count_reads.Given as goal

abbrev pub invariant-loop-req : goal.invariant-loop-req
invariant-loop-req g l = l.count + reads_in l.log (drop l.req-index l.log.reqs) ≡ read_count l.log
