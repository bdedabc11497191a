use Rattle.std.proofs.Common.{◌≡◌, true, take}
use Rattle.id_maps.specs.Sets.{has_id}
use Rattle.std.specs.List.{list_all}
use Rattle.vocabulary.specs.Prelude.{records_of}
use Rattle.log_rules.specs.Listing.{is_listed}
use Rattle.log_rules.proofs.serial.are_listed.Given as goal

abbrev pub invariant-loop-l : goal.invariant-loop-l
invariant-loop-l l = list_all (is_listed (has_id l.listed) (has_id l.here)) (records_of (take l.l-index l.log)) ≡ true
