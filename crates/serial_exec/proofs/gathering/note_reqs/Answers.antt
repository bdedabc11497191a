use Rattle.std.proofs.Common.{refl, get_or}
use Rattle.serial_exec.specs.Changes.{by_task}
use Rattle.serial_exec.specs.Histories.{listed}
use Rattle.serial_exec.proofs.Gathered.{uses-more}
use Rattle.serial_exec.proofs.gathering.note_reqs.Goals as goal

pub loop-k-preserved : goal.loop-k-preserved
loop-k-preserved g c = λ p.
    uses-more c.args.log.now c.args.position (by_task c.args.task) c.args.log.now.reqs c.args.own.now c.loop-k.k-index
    (get_or c.args.own.now c.loop-k.k-index 0) p (listed c.args.histories.now p) (listed c.loop-k.histories p)
    (listed c.note_req_at.new.histories p)
    c.loop-k-test.true refl (c.loop-k.invariant p) (c.in_ok-note_req_at.ensures p)
