use Rattle.std.proofs.Common.{◌≡◌, ◌+◌, ◌≤◌, ◌^◌, ◌++◌, List, ℕ, length}
use Rattle.semantics.specs.TextFaults.{lines_fault}
use Rattle.log_reading.specs.Spelled.{HoldText}
use Rattle.log_reading.proofs.kept_records.kept_lines.Given as goal

abbrev pub invariant-loop-line : goal.invariant-loop-line
invariant-loop-line l = record {
  text : (more : List ℕ) → HoldText l.line l.lines.rest more → HoldText 1 l.fn.list (l.lines.kept ++ more);
  fault : lines_fault 1 l.fn.list ≡ lines_fault l.line l.lines.rest;
  few : l.line + length l.lines.rest ≤ 2 ^ 26 + 1;
}

abbrev pub decreases-loop-line : goal.decreases-loop-line
decreases-loop-line l = length l.lines.rest
