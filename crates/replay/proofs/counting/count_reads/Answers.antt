use Rattle.std.proofs.Common.{◌≡◌, sym, arith}
use Rattle.std.proofs.lemmas.Grind.{common_steps}
use Rattle.semantics.specs.Counts.{read_count}
use Rattle.replay.specs.Counts.{reads_in}
use Rattle.replay.proofs.ReadCounts.{few_reads, reads_counted}
use Rattle.replay.proofs.counting.count_reads.Goals as goal

pub loop-req-init : goal.loop-req-init
loop-req-init g c =
    let t = c.args.log.now in
    let e : reads_in t t.reqs ≡ read_count t = sym (reads_counted t t.reqs) in
    omega (arith, e)

pub reads_of-count-requires : goal.reads_of-count-requires
reads_of-count-requires g c = let few = few_reads c.args.log.now c.is_declared.ensures in grind (arith, common_steps, few)

pub overflow_add-count : goal.overflow_add-count
overflow_add-count g c = let few = few_reads c.args.log.now c.is_declared.ensures in grind (arith, common_steps, few)
