use Rattle.std.proofs.Common.{◌≡◌, drop, map}
use Rattle.semantics.specs.Faults.{ended_fault}
use Rattle.log_frame.proofs.fault.ended_fault.Given as goal

abbrev pub invariant-loop-l : goal.invariant-loop-l
invariant-loop-l g l = record {
  at : l.next ≡ l.l-index;
  rest : ended_fault l.lines (map g.R.Framed.in_frame l.records) ≡ ended_fault l.lines (map g.R.Framed.in_frame (drop l.l-index l.records));
}
