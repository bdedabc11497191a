-- What is so by whatever marks of a graph.
use Rattle.std.specs.Prelude.{◌≡◌, ℕ, List, [], None}
use Rattle.vocabulary.specs.Prelude.{Node}
use Rattle.reach_marks.specs.Reached.{Marks, AreMarksOf, before_in}
use Rattle.cell_races.specs.declared.access.NodeAccess.{NodeAccess}
use Rattle.cell_races.specs.declared.cell_accesses.CellAccess.{CellAccess}
use Rattle.cell_races.specs.Races.{race_in}
use Rattle.cell_races.specs.Clashes.{IsFree}
use Rattle.cell_races.specs.Turns.{AreInTurnBut}

-- No race is shown of nodes in replay order.
abbrev pub AreInTurn : List Node → List NodeAccess → Type 0
AreInTurn nodes node_accesses =
    (marks : Marks) → AreMarksOf nodes marks → race_in (before_in marks) node_accesses ≡ None

-- No two nodes clash.
abbrev pub IsFreeOf : List Node → List ℕ → List CellAccess → Type 0
IsFreeOf nodes order cell_accesses =
    (marks : Marks) → AreMarksOf nodes marks → IsFree (before_in marks) order cell_accesses

-- What conflicts at a cell is done in the order of its places.
abbrev pub AreInTurnOf : List Node → List ℕ → List CellAccess → Type 0
AreInTurnOf nodes order cell_accesses =
    (marks : Marks) → AreMarksOf nodes marks → AreInTurnBut (before_in marks) order cell_accesses []
