use Rattle.std.proofs.Common.{◌≡◌, false, take}
use Rattle.id_maps.specs.Sets.{has_id}
use Rattle.semantics.specs.Rules.{has_repeat}
use Rattle.log_rules.specs.Listing.{IsSetOf}
use Rattle.log_rules.proofs.serial.distinct.Given as goal

abbrev pub invariant-loop-id : goal.invariant-loop-id
invariant-loop-id l = (has_repeat (take l.id-index l.ids) ≡ false) × IsSetOf (take l.id-index l.ids) (has_id l.seen)
