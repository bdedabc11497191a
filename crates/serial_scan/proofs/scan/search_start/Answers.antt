use Rattle.std.proofs.Common.{sym, subst}
use Rattle.point_laws.specs.Alike.{AreFirsts}
use Rattle.serial_scan.specs.Scanned.{AreClearBefore}
use Rattle.serial_scan.proofs.Meeting.{none_turned}
use Rattle.serial_scan.proofs.scan.search_start.Goals as goal

pub returns : goal.returns
returns g c =
    let t = c.args.log.now in
    let firsts = c.as_slice.result.now in
    let are : AreFirsts t firsts = subst (AreFirsts t) (sym c.as_slice.ensures.points) c.in_ok-firsts.ensures.firsts in
    none_turned t firsts c.in_ok-claims.claims.items c.in_ok-first.first are c.in_ok-claims.ensures.all
    (subst (λ cs. AreClearBefore t firsts cs c.in_ok-first.first) c.deref.ensures.value c.in_ok-first.ensures)
