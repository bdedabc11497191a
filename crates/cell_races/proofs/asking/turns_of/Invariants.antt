use Rattle.std.proofs.Common.{◌≤◌, ◌-◌, length, take, drop}
use Rattle.cell_races.specs.Chained.{AreInTurnOf}
use Rattle.cell_races.specs.Questions.{AreAnswered}
use Rattle.cell_races.proofs.Cells.{IsApart}
use Rattle.cell_races.proofs.asking.turns_of.Given as goal

abbrev pub invariant-loop-from : goal.invariant-loop-from
invariant-loop-from l = record {
  within : l.from ≤ length l.cell_accesses;
  turn : AreAnswered l.graph l.asking.asked → AreInTurnOf l.graph l.order (take l.from l.cell_accesses);
  apart : IsApart (take l.from l.cell_accesses) (drop l.from l.cell_accesses);
}

abbrev pub decreases-loop-from : goal.decreases-loop-from
decreases-loop-from l = length l.cell_accesses - l.from
