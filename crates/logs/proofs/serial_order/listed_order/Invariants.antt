use Rattle.std.proofs.Common.{◌≡◌, map, flat_map, take}
use Rattle.vocabulary.specs.Prelude.{place_of}
use Rattle.logs.proofs.serial_order.listed_order.Given as goal

abbrev pub invariant-loop-list : goal.invariant-loop-list
invariant-loop-list g l = l.order.items ≡ map (place_of l.tables.items) (flat_map (λ s. s.ids) (take l.list-index l.tables.serials))
