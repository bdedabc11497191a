use Rattle.std.proofs.Common.{take}
use Rattle.id_maps.specs.Sets.{has_id}
use Rattle.log_rules.specs.Listing.{AddsAll}
use Rattle.log_rules.proofs.serial.note_all.Given as goal

abbrev pub invariant-loop-id : goal.invariant-loop-id
invariant-loop-id l = AddsAll (has_id l.initial.set) (has_id l.set) (take l.id-index l.ids)
