-- Cells of instances, and stores that have them.
use Rattle.std.specs.Prelude.{◌≡◌, true}
use Rattle.std.specs.FinMap.{contains_key}
use Rattle.vocabulary.specs.Prelude.{Cell, Move, Tables}
use Rattle.semantics.specs.declared.moves.Move.TheVariants as moves
use Rattle.inst_steps.specs.Stores.{Contents, has_cell}

-- The cells of a move are cells of instances.
abbrev pub AreOfInsts : Tables → Move → Type 0
AreOfInsts t (moves.Read task req cell) = has_cell t cell ≡ true
AreOfInsts t (moves.Write task cell) = has_cell t cell ≡ true
AreOfInsts t (moves.Reduce task req op cell) = has_cell t cell ≡ true
AreOfInsts t (moves.Copy from to) = (has_cell t from ≡ true) × (has_cell t to ≡ true)
AreOfInsts t (moves.Put cell n) = has_cell t cell ≡ true
AreOfInsts t (moves.Reset cell) = has_cell t cell ≡ true
AreOfInsts t (moves.Fold op from to) = (has_cell t from ≡ true) × (has_cell t to ≡ true)

-- A store has the cells of the instances, and no other.
abbrev pub HasCellsOf : Tables → Contents → Type 0
HasCellsOf t m = (c : Cell) → contains_key m c ≡ has_cell t c
