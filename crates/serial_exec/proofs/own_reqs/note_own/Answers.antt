use Rattle.std.proofs.Common.{sym, subst}
use Rattle.serial_exec.specs.OwnReqs.{IsNoted}
use Rattle.serial_exec.proofs.Owned.{pushed-is_noted}
use Rattle.serial_exec.proofs.own_reqs.note_own.Goals as goal

pub returns-in_ok-push : goal.returns-in_ok-push
returns-in_ok-push c = subst (IsNoted c.args.item c.args.k c.args.lists.now) (sym c.in_ok-push.ensures.added)
    (pushed-is_noted c.args.lists.now c.args.item c.args.k)
