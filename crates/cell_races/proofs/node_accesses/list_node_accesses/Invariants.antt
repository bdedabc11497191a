use Rattle.std.proofs.Common.{◌≡◌, ◌<◌, ◌++◌, All, length, map, drop}
use Rattle.cell_races.specs.declared.cell_accesses.CellAccess.{CellAccess}
use Rattle.cell_races.specs.NodeAccesses.{node_access_of, node_accesses_of, merged_from}
use Rattle.cell_races.proofs.node_accesses.list_node_accesses.Given as goal

abbrev pub invariant-loop-cell_access : goal.invariant-loop-cell_access
invariant-loop-cell_access l = record {
  within : All (λ (x : CellAccess). x.place < length l.order) l.rest;
  same : l.node_accesses.items ++ merged_from l.last (map (node_access_of l.order) (drop l.cell_access-index l.rest)) ≡ node_accesses_of l.order l.cell_accesses;
}
