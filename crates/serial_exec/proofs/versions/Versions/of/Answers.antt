use Rattle.std.proofs.Common.{List, ℕ, sym, subst, length}
use Rattle.semantics.specs.SerialOrder.{serial}
use Rattle.logs.specs.Listing.{ArePlacesIn}
use Rattle.serial_exec.proofs.Keeping.{kept-in_order, versions-of}
use Rattle.serial_exec.proofs.versions.Versions.of.Goals as goal

pub invariant_of-result : goal.invariant_of-result
invariant_of-result g c =
    kept-in_order c.args.log.now c.in_ok-positions.positions.items c.in_ok-histories.histories c.in_ok-histories.ensures

pub returns : goal.returns
returns g c =
    versions-of c.args.log.now c.in_ok-positions.positions.items c.in_ok-histories.histories
    (subst (λ (places : List ℕ). ArePlacesIn (serial c.args.log.now) (length c.args.log.now.items) places)
    (sym c.in_ok-positions.ensures.items) c.serial_places.ensures)
    c.in_ok-histories.ensures
