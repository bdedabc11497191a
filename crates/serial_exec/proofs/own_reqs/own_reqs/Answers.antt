use Rattle.std.proofs.Common.{[], sym, subst}
use Rattle.serial_exec.specs.OwnReqs.{AreOwn}
use Rattle.serial_exec.proofs.Owned.{none-are_own, more-are_own}
use Rattle.serial_exec.proofs.own_reqs.own_reqs.Goals as goal

pub loop-k-init : goal.loop-k-init
loop-k-init c = subst (AreOwn c.args.reqs.now [] c.args.count) (sym c.in_ok-lists.ensures) (none-are_own c.args.reqs.now c.args.count)

pub loop-k-preserved : goal.loop-k-preserved
loop-k-preserved c =
    more-are_own c.args.reqs.now c.loop-k.k c.args.count c.index-reqs-k.result _ _ c.loop-k-test.true c.index-reqs-k.is c.loop-k.invariant c.in_ok-note_own.ensures
