use Rattle.std.proofs.Common.{◌≡◌, ◌+◌, ◌-◌, length}
use Rattle.shared_values.specs.Arenas.{Keeps}
use Rattle.serial_exec.specs.Histories.{listed}
use Rattle.replay.specs.Wanting.{AreWanted}
use Rattle.replay.proofs.wanted.number_listed.Given as goal

abbrev pub invariant-loop-made : goal.invariant-loop-made
invariant-loop-made l = record {
  made : l.made ≡ length (listed l.wanted l.place);
  wanted : AreWanted l.store.values l.versions l.wanted;
  kept : Keeps l.fn.store.values l.store.values;
  cells : l.store.cells ≡ l.fn.store.cells;
}

abbrev pub decreases-loop-made : goal.decreases-loop-made
decreases-loop-made l = length l.changes + 1 - l.made
