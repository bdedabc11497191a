-- What stands at ids.
use Rattle.std.specs.Prelude.{ℕ, nat_eq, nat_lt, Option, Some, None, slice_get, if◌then◌else◌}
use Rattle.std.specs.HashMap.{get}
use Rattle.id_maps.specs.declared.IdMap.{IdMap}
use Rattle.id_maps.specs.declared.TheConstants.{TABLE_END}

-- What a place of a table holds, if the table is so long.
abbrev pub held : {T : Type 0} → Option (Option T) → Option T
held None = None
held (Some entry) = entry

-- The value of an id, if it has one.
unfoldable pub entry_at : {T : Type 0} → IdMap T → ℕ → Option T
entry_at map id = if nat_lt id TABLE_END then held (slice_get map.table.items id) else get nat_eq map.others id
