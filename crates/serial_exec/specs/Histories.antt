-- The lists that are kept of places.
use Rattle.std.specs.Prelude.{List, []}
use Rattle.std.specs.Option.{option_map_or}
use Rattle.std.specs.HashMap.{get}
use Rattle.vocabulary.specs.Prelude.{Place, same_place}
use Rattle.serial_exec.specs.declared.place_lists.PlaceLists.{PlaceLists}

-- The list of a place.
abbrev pub listed : {T : Type 0} → PlaceLists T → Place → List T
listed h p = option_map_or (λ v. v.items) (get same_place h.lists p) []
