use Rattle.std.proofs.Common.{append_assoc, append-nil, arith}
use Rattle.spare_laws.proofs.lemmas.Growing.{marked_step}
use Rattle.spare_waits.proofs.list.add_marked.Goals as goal
use Rattle.spare_waits.proofs.list.add_marked.Goals.{then-marks-k+in_ok-push, else-marks-k}

pub loop-k-preserved : goal.loop-k-preserved
loop-k-preserved c =
    let step = marked_step c.args.node c.loop-k.k c.args.marks.now c.loop-k-test.true in
    elim c.if-marks-k.branch [
      | then-marks-k+in_ok-push w ↦ grind (
        arith,
        step,
        c.loop-k.invariant,
        w.if-marks-k.true,
        w.in_ok-push.ensures.items,
        w.list-is,
        append_assoc,
      )
      | else-marks-k w ↦ grind (arith, step, c.loop-k.invariant, w.if-marks-k.false, w.list-is, append-nil)
    ]
