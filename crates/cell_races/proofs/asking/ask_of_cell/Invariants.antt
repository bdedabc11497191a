use Rattle.std.proofs.Common.{◌≡◌, take, drop}
use Rattle.reach_marks.specs.Reached.{Marks, AreMarksOf, before_in}
use Rattle.cell_races.specs.Questions.{AreAnswered}
use Rattle.cell_races.specs.Races.{race_in, race_from}
use Rattle.cell_races.proofs.AreGroupsOf.{AreGroupsOf}
use Rattle.cell_races.proofs.asking.ask_of_cell.Given as goal

abbrev pub invariant-loop-node_access : goal.invariant-loop-node_access
invariant-loop-node_access l = AreAnswered l.graph l.asking.asked → AreAnswered l.graph l.fn.asking.asked
    × ((marks : Marks) → AreMarksOf l.graph marks
    → (race_in (before_in marks) l.node_accesses
    ≡ race_from (before_in marks) (take l.node_access-index l.node_accesses) (drop l.node_access-index l.node_accesses))
    × AreGroupsOf (before_in marks) (take l.node_access-index l.node_accesses) l.asking.groups)
