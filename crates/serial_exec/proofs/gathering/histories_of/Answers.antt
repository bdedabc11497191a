use Rattle.std.proofs.Common.{◌<◌, ap, subst, length, get_or}
use Rattle.semantics.specs.SerialOrder.{serial}
use Rattle.serial_exec.specs.Histories.{listed}
use Rattle.serial_exec.proofs.Gathered.{items-more}
use Rattle.serial_exec.proofs.gathering.histories_of.Goals as goal

pub loop-position-preserved : goal.loop-position-preserved
loop-position-preserved g c = λ p.
    let t = c.args.log.now in
    let order = serial c.args.log.now in
    let same = c.serial-order.ensures in
    let k = c.loop-position.position in
    items-more t order k (get_or c.serial-order.result.now k 0) p (listed c.loop-position.histories p)
    (listed c.note_item.new.histories p)
    (subst (λ xs. k < length xs) same c.loop-position-test.true) (ap (λ xs. get_or xs k 0) same)
    (c.loop-position.invariant p) (c.in_ok-note_item.ensures p)
