use Rattle.std.proofs.Common.{◌≡◌, take}
use Rattle.vocabulary.specs.Prelude.{Place}
use Rattle.semantics.specs.SerialOrder.{serial}
use Rattle.serial_exec.specs.Changes.{items_changes}
use Rattle.serial_exec.specs.Histories.{listed}
use Rattle.serial_exec.proofs.gathering.histories_of.Given as goal

abbrev pub invariant-loop-position : goal.invariant-loop-position
invariant-loop-position g l = (p : Place) → listed l.histories p
    ≡ items_changes l.log 0 (take l.position (serial l.log)) p
