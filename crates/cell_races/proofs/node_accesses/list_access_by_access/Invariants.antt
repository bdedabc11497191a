use Rattle.std.proofs.Common.{◌≡◌, ◌<◌, All, length, map, take}
use Rattle.cell_races.specs.declared.access.NodeAccess.{NodeAccess}
use Rattle.cell_races.specs.NodeAccesses.{node_access_of}
use Rattle.cell_races.proofs.node_accesses.list_access_by_access.Given as goal

abbrev pub invariant-loop-cell_access : goal.invariant-loop-cell_access
invariant-loop-cell_access l = (l.node_accesses.items ≡ map (node_access_of l.order) (take l.cell_access-index l.cell_accesses))
    × All (λ (a : NodeAccess). a.node < length l.graph) l.node_accesses.items
