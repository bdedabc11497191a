use Rattle.std.proofs.Common.{◌≤◌, ◌-◌, All, length, take, drop}
use Rattle.cell_races.proofs.lemmas.CellEnds.{AreApart}
use Rattle.pair_rows.specs.Meetings.{AreByClass}
use Rattle.task_order.specs.Users.{AreUsersOf}
use Rattle.task_order.proofs.cells.users_of_cells.Given as goal

abbrev pub invariant-loop-from : goal.invariant-loop-from
invariant-loop-from l = record {
  within : l.from ≤ length l.cell_accesses;
  users : AreUsersOf l.order (take l.from l.cell_accesses) l.places;
  classes : All AreByClass l.places;
  apart : AreApart (take l.from l.cell_accesses) (drop l.from l.cell_accesses);
}

abbrev pub decreases-loop-from : goal.decreases-loop-from
decreases-loop-from l = length l.cell_accesses - l.from
