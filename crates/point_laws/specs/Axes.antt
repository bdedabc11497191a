-- The two numbers by which a cell stands in its instance, its point and its field, and moves at another one.
use Rattle.std.specs.Prelude.{◌≡◌, ℕ, Bool, List, ⊤}
use Rattle.vocabulary.specs.Prelude.{Cell, Move, is_in, Step}
use Rattle.semantics.specs.declared.moves.Move.TheVariants.{Read, Write, Reduce, Copy, Put, Reset, Fold}

pub data Axis : Type 0 where
  ByPoint : Axis
  ByField : Axis

-- The point or the field of a cell.
abbrev pub along : Axis → Cell → ℕ
along ByPoint c = c.point
along ByField c = c.field

-- The cell of the same instance at another point, or at another field.
abbrev pub cell_to : Axis → ℕ → Cell → Cell
cell_to ByPoint q c = record c { point = q }
cell_to ByField q c = record c { field = q }

-- A move with its cells there.
abbrev pub move_to : Axis → ℕ → Move → Move
move_to axis q (Read task req cell) = Read task req (cell_to axis q cell)
move_to axis q (Write task cell) = Write task (cell_to axis q cell)
move_to axis q (Reduce task req op cell) = Reduce task req op (cell_to axis q cell)
move_to axis q (Copy from to) = Copy (cell_to axis q from) (cell_to axis q to)
move_to axis q (Put cell n) = Put (cell_to axis q cell) n
move_to axis q (Reset cell) = Reset (cell_to axis q cell)
move_to axis q (Fold op from to) = Fold op (cell_to axis q from) (cell_to axis q to)

abbrev pub step_to : Axis → ℕ → Step → Step
step_to axis q x = record x { move = move_to axis q x.move }

-- The cell that a move reads or changes: of two, the one that it changes.
abbrev pub target : Move → Cell
target (Read task req cell) = cell
target (Write task cell) = cell
target (Reduce task req op cell) = cell
target (Copy from to) = to
target (Put cell n) = cell
target (Reset cell) = cell
target (Fold op from to) = to

-- A move from one cell to another stays at one point, or at one field.
abbrev pub StaysAlong : Axis → Move → Type 0
StaysAlong axis (Copy from to) = along axis from ≡ along axis to
StaysAlong axis (Fold op from to) = along axis from ≡ along axis to
StaysAlong axis _ = ⊤

-- Whether a step is at one of some points, or of some fields.
abbrev pub is_along : Axis → List ℕ → Step → Bool
is_along axis ps x = is_in ps (along axis (target x.move))
