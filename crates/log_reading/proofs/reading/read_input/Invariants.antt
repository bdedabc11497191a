use Rattle.std.proofs.Common.{◌≡◌, ◌+◌, ◌≤◌, ◌^◌, ◌++◌, List, length}
use Rattle.vocabulary.specs.Prelude.{HoldBy}
use Rattle.semantics.specs.TextFaults.{lines_fault_by}
use Rattle.log_reading.proofs.reading.read_input.Given as goal

abbrev pub invariant-loop-text : goal.invariant-loop-text
invariant-loop-text g l = record {
  held : (more : List g.row.L.Denot) → HoldBy g.L.LogLine.good g.L.LogLine.spelled g.L.LogLine.on l.line l.text-iterator more
      → HoldBy g.L.LogLine.good g.L.LogLine.spelled g.L.LogLine.on 1 l.list (l.records.items ++ more);
  fault : lines_fault_by g.L.LogLine.read 1 l.list ≡ lines_fault_by g.L.LogLine.read l.line l.text-iterator;
  count : l.line + length l.text-iterator ≡ length l.list + 1;
  few : l.line + length l.text-iterator ≤ 2 ^ 26 + 1;
}
