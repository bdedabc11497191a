-- The nodes that access a cell, each with all that it does there as one access.
use Rattle.std.specs.Prelude.{ℕ, ◌==◌, List, [], ◌∷◌, map, slice_index, if◌then◌else◌}
use Rattle.cell_races.specs.declared.access.NodeAccess.{NodeAccess}
use Rattle.cell_races.specs.declared.cell_accesses.CellAccess.{CellAccess}
use Rattle.cell_races.specs.Accesses.{joined}

-- The node at the place, and what it does.
abbrev pub node_access_of : List ℕ → CellAccess → NodeAccess
node_access_of order x = record { node = slice_index order x.place; access = x.access }

-- Two accesses by one node, as one.
abbrev pub with_access : NodeAccess → NodeAccess → NodeAccess
with_access v x = record { node = v.node; access = joined v.access x.access }

-- Neighbours of one node are joined.
abbrev pub merged_from : NodeAccess → List NodeAccess → List NodeAccess
merged_from v [] = v ∷ []
merged_from v (x ∷ xs) = if v.node == x.node then merged_from (with_access v x) xs else v ∷ merged_from x xs

abbrev pub merged : List NodeAccess → List NodeAccess
merged [] = []
merged (x ∷ xs) = merged_from x xs

-- The nodes of what is done at one cell, in replay order.
abbrev pub node_accesses_of : List ℕ → List CellAccess → List NodeAccess
node_accesses_of order cell_accesses = merged (map (node_access_of order) cell_accesses)
