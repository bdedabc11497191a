-- What the nodes of a log do at cells, node by node in replay order.
use Rattle.std.specs.Prelude.{ℕ, zero, suc, List, [], ◌++◌, flat_map, length, slice_index}
use Rattle.std.specs.List.Sorted.{IsPermutation}
use Rattle.vocabulary.specs.Prelude.{Move, Tables}
use Rattle.cell_races.specs.declared.cell_accesses.CellAccess.{CellAccess}
use Rattle.cell_races.specs.CellAccesses.{cell_accesses_of}
use Rattle.inst_steps.specs.FieldMoves.{field_moves_at}
use Rattle.inst_steps.specs.Stepping.{moves_at}

-- What the nodes do at cells that stand before a place of the order, where each makes these moves.
abbrev pub accesses_before : (ℕ → List Move) → List ℕ → ℕ → List CellAccess
accesses_before moves order zero = []
accesses_before moves order (suc place) =
    accesses_before moves order place ++ flat_map (cell_accesses_of place) (moves (slice_index order place))

-- The same of the moves of a log.
abbrev pub cell_accesses_before : Tables → List ℕ → ℕ → List CellAccess
cell_accesses_before t order n = accesses_before (moves_at t) order n

-- The same if each space that has points had point 0 alone, so that each instance has a single cell for each
-- of its fields.
abbrev pub field_accesses_before : Tables → List ℕ → ℕ → List CellAccess
field_accesses_before t order n = accesses_before (field_moves_at t) order n

-- What all nodes of the order do at cells, in some order.
abbrev pub AreAllCellsOf : Tables → List ℕ → List CellAccess → Type 0
AreAllCellsOf t order cell_accesses =
    IsPermutation (cell_accesses_before t order (length order)) cell_accesses
