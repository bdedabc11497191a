use Rattle.std.proofs.Common.{◌≡◌, length}
use Rattle.reach_marks.specs.Reached.{AreRows, AreCompact}
use Rattle.reach_marks.proofs.building.rows_of.Given as goal

abbrev pub invariant-loop-p : goal.invariant-loop-p
invariant-loop-p l = record {
  each : length l.rows ≡ l.p;
  compact : AreCompact l.rows;
  rows : AreRows l.graph l.order l.rows;
}
