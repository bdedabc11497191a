-- What nodes do at cells, one entry for each cell that a move reads or changes.
use Rattle.std.specs.Prelude.{◌≡◌, ◌≢◌, ℕ, ◌<◌, ◌≤◌, ◌^◌, length, ◌||◌, ◌&&◌, nat_lt, Bool, false, List, [], ◌∷◌, AllPairs, if◌then◌else◌}
use Rattle.std.specs.List.{slice_index_or}
use Rattle.vocabulary.specs.Prelude.{Cell, Move, comes_first, same_cell}
use Rattle.semantics.specs.declared.moves.Move.TheVariants.{Read, Write, Reduce, Copy, Put, Reset, Fold}
use Rattle.cell_races.specs.declared.access.Access.{Access}
use Rattle.cell_races.specs.declared.access.Access.TheVariants.{Reads, Writes, Folds}
use Rattle.cell_races.specs.declared.cell_accesses.CellAccess.{CellAccess}

abbrev pub cell_access : ℕ → Cell → Access → CellAccess
cell_access place cell access = record { cell = cell; place = place; access = access }

-- What a move does that takes one cell to another. Where the two are one cell it changes what it reads, and
-- so writes it.
abbrev pub both_accessed : ℕ → Cell → Cell → Access → List CellAccess
both_accessed place from to access = if same_cell from to then cell_access place to Writes ∷ []
    else cell_access place from Reads ∷ cell_access place to access ∷ []

-- What a move does, by the node at a place of the replay order.
abbrev pub cell_accesses_of : ℕ → Move → List CellAccess
cell_accesses_of place (Read task req cell) = cell_access place cell Reads ∷ []
cell_accesses_of place (Write task cell) = cell_access place cell Writes ∷ []
cell_accesses_of place (Reduce task req op cell) = cell_access place cell (Folds op) ∷ []
cell_accesses_of place (Copy from to) = both_accessed place from to Writes
cell_accesses_of place (Put cell n) = cell_access place cell Writes ∷ []
cell_accesses_of place (Reset cell) = cell_access place cell Writes ∷ []
cell_accesses_of place (Fold op from to) = both_accessed place from to (Folds op)

-- Cells go by instance, point and field.
abbrev pub key : Cell → ℕ × ℕ × ℕ
key c = (c.inst, c.point, c.field)

-- Point and field fit their types, so that they are digits of the cell's key.
abbrev pub AreDigits : Cell → Type 0
AreDigits c = (c.point < 2 ^ 64) × (c.field < 2 ^ 32)

-- None is at a lesser cell than an earlier one.
abbrev pub IsUpTo : CellAccess → CellAccess → Type 0
IsUpTo x y = comes_first (key y.cell) (key x.cell) ≡ false

abbrev pub AreByCell : List CellAccess → Type 0
AreByCell cell_accesses = AllPairs IsUpTo cell_accesses

-- The one is at a lesser cell, or at the same cell by an earlier node.
abbrev pub comes_before : CellAccess → CellAccess → Bool
comes_before x y = comes_first (key x.cell) (key y.cell)
    || (same_cell x.cell y.cell && nat_lt x.place y.place)

-- None comes before an earlier one.
abbrev pub AreInOrder : List CellAccess → Type 0
AreInOrder cell_accesses = AllPairs (λ x y. comes_before y x ≡ false) cell_accesses

-- From a place on all is at the cell that stands there, up to the end, and what stands at the end is at
-- another.
pub record IsCellEnd (cell_accesses : List CellAccess) (from end : ℕ) : Type 0 where
  pub behind : from < end
  pub within : end ≤ length cell_accesses
  pub same : (k : ℕ) (d : CellAccess) → from ≤ k → k < end
      → (slice_index_or cell_accesses k d).cell ≡ (slice_index_or cell_accesses from d).cell
  pub other : (d : CellAccess) → end < length cell_accesses
      → (slice_index_or cell_accesses end d).cell ≢ (slice_index_or cell_accesses from d).cell
