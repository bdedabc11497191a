-- Accesses, and which of them may not be left unordered.
use Rattle.std.specs.Prelude.{◌≡◌, ◌≢◌, ℕ, ◌==◌, Bool, true, false, not, Contains, if◌then◌else◌}
use Rattle.semantics.specs.declared.places.Cell.{Cell}
use Rattle.semantics.specs.declared.moves.Move.{Move}
use Rattle.semantics.specs.declared.moves.Move.TheVariants.{Read, Write, Reduce, Copy, Put, Reset, Fold}
use Rattle.semantics.specs.Tables.{Tables}
use Rattle.semantics.specs.Events.{graph_of, Before}
use Rattle.semantics.specs.Steps.{steps}
use Rattle.semantics.specs.Execution.{same_cell}
use Rattle.semantics.specs.Interleavings.{is_read}

-- What a move does at a cell: nothing, a read, a write, or a change by an operator.
pub data Access : Type 0 where
  Untouched : Access
  Reads : Access
  Writes : Access
  Folds : (op : ℕ) → Access

-- An access at one cell, and none elsewhere.
abbrev pub at_cell : Cell → Access → Cell → Access
at_cell cell here c = if same_cell c cell then here else Untouched

-- A read at `from`, and this access at `to`. Where the two are one cell it is a write, since it changes what
-- it reads.
abbrev pub from_to : Cell → Cell → Access → Cell → Access
from_to from to here c = if same_cell c to then (if same_cell c from then Writes else here)
    else at_cell from Reads c

-- What a move does at a cell.
abbrev pub access : Move → Cell → Access
access (Read task req cell) = at_cell cell Reads
access (Write task cell) = at_cell cell Writes
access (Reduce task req op cell) = at_cell cell (Folds op)
access (Copy from to) = from_to from to Writes
access (Put cell n) = at_cell cell Writes
access (Reset cell) = at_cell cell Writes
access (Fold op from to) = from_to from to (Folds op)

-- Two accesses at one cell conflict, except where both read, or both change it by one operator.
abbrev pub conflicts : Access → Access → Bool
conflicts Untouched b = false
conflicts a Untouched = false
conflicts Reads Reads = false
conflicts (Folds p) (Folds q) = not (p == q)
conflicts a b = true

-- A race: two nodes conflict at a cell, and neither is before the other.
pub record Race (t : Tables) (a b : ℕ) (cell : Cell) : Type 0 where
  pub differ : a ≢ b
  pub one : Move
  pub other : Move
  pub one_in : Contains (steps t) (record { node = a; move = one })
  pub other_in : Contains (steps t) (record { node = b; move = other })
  pub conflict : conflicts (access one cell) (access other cell) ≡ true
  pub not_before : Before (graph_of t.nodes) a b → ⊥
  pub not_after : Before (graph_of t.nodes) b a → ⊥

-- No two nodes race.
abbrev pub IsRaceFree : Tables → Type 0
IsRaceFree t = (a b : ℕ) (cell : Cell) → Race t a b cell → ⊥

-- Two moves conflict at no cell.
abbrev pub AreIndependent : Move → Move → Type 0
AreIndependent m n = (cell : Cell) → conflicts (access m cell) (access n cell) ≡ false

-- Two moves of one node conflict only where the one is a read and the other is none.
abbrev pub NodesConflictByReads : Tables → Type 0
NodesConflictByReads t = (node : ℕ) (m n : Move) (cell : Cell) → Contains (steps t) (record { node = node; move = m })
    → Contains (steps t) (record { node = node; move = n })
    → m ≢ n → conflicts (access m cell) (access n cell) ≡ true → is_read m ≢ is_read n
