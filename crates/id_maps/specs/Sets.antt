-- Which ids are in a set.
use Rattle.std.specs.Prelude.{ℕ, Bool, is_some}
use Rattle.id_maps.specs.declared.sets.IdSet.{IdSet}
use Rattle.id_maps.specs.Entries.{entry_at}

-- Whether an id is in the set.
abbrev pub has_id : IdSet → ℕ → Bool
has_id set id = is_some (entry_at set.ids id)
