-- Whether what conflicts at a cell is done in the order of some places.
use Rattle.std.specs.Prelude.{◌≡◌, ◌⊎◌, ℕ, ◌<◌, ◌≤◌, Bool, true, false, List, slice_index, length, Contains}
use Rattle.std.specs.List.{slice_index_or}
use Rattle.reach_marks.specs.Reached.{Marks}
use Rattle.cell_races.specs.declared.cell_accesses.CellAccess.{CellAccess}
use Rattle.cell_races.specs.Accesses.{conflicts}

-- The place of an access is one of the order, and the node there is marked.
pub record IsMarked (order : List ℕ) (marks : Marks) (x : CellAccess) : Type 0 where
  pub placed : x.place < length order
  pub marked : slice_index order x.place < length marks.places

-- They are all of one cell.
abbrev pub AreOfOneCell : List CellAccess → Type 0
AreOfOneCell cell_accesses = (x y : CellAccess) → Contains cell_accesses x → Contains cell_accesses y → x.cell ≡ y.cell

-- Whether a place is noted.
abbrev pub is_noted : List Bool → ℕ → Bool
is_noted noted place = slice_index_or noted place false

-- What is done at a place conflicts with something that is done at the same cell, at no later place, by a
-- node that is not before its node.
pub record IsUnorderedAt (before : ℕ → ℕ → Bool) (order : List ℕ) (cell_accesses : List CellAccess)
    (place : ℕ) : Type 0 where
  pub x : CellAccess
  pub y : CellAccess
  pub x_in : Contains cell_accesses x
  pub y_in : Contains cell_accesses y
  pub same : x.cell ≡ y.cell
  pub at_place : y.place ≡ place
  pub conflict : conflicts x.access y.access ≡ true
  pub not_later : x.place ≤ y.place
  pub not_before : before (slice_index order x.place) (slice_index order y.place) ≡ false

-- Of two accesses that conflict at a cell, neither at a place that is noted, the node at the earlier place is
-- before the other.
abbrev pub AreInTurnBut : (ℕ → ℕ → Bool) → List ℕ → List CellAccess → List Bool → Type 0
AreInTurnBut before order cell_accesses noted = (x y : CellAccess) → Contains cell_accesses x → Contains cell_accesses y
    → x.cell ≡ y.cell → x.place < y.place → conflicts x.access y.access ≡ true
    → is_noted noted x.place ≡ false → is_noted noted y.place ≡ false
    → before (slice_index order x.place) (slice_index order y.place) ≡ true

-- What is noted of some accesses more: unordered places alone, so that the others are in turn.
pub record NotesMore (before : ℕ → ℕ → Bool) (order : List ℕ) (cell_accesses : List CellAccess)
    (old new : List Bool) : Type 0 where
  pub each : length new ≡ length old
  pub kept : (k : ℕ) → is_noted old k ≡ true → is_noted new k ≡ true
  pub sound : (k : ℕ) → is_noted new k ≡ true → (is_noted old k ≡ true) ⊎ IsUnorderedAt before order cell_accesses k
  pub turn : AreInTurnBut before order cell_accesses new

-- Unordered places alone are noted, and the others are in turn.
pub record AreNoted (before : ℕ → ℕ → Bool) (order : List ℕ) (cell_accesses : List CellAccess)
    (noted : List Bool) : Type 0 where
  pub each : length noted ≡ length order
  pub sound : (k : ℕ) → is_noted noted k ≡ true → IsUnorderedAt before order cell_accesses k
  pub turn : AreInTurnBut before order cell_accesses noted
