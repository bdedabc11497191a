use Rattle.std.proofs.Common.{◌≡◌, ◌+◌, ◌<◌, ◌≤◌, ◌^◌, All, length}
use Rattle.vocabulary.specs.Prelude.{Good, Lined}
use Rattle.semantics.specs.TextFaults.{lines_fault}
use Rattle.crowded_logs.specs.Crowded.{crowd_count}
use Rattle.log_input.specs.Lines.{Lead}
use Rattle.log_input.proofs.first.first_records.Given as goal

abbrev pub invariant-loop-text : goal.invariant-loop-text
invariant-loop-text l = record {
  lead : Lead 1 l.fn.lines.rest l.records.items l.next l.lines.rest;
  fault : lines_fault 1 l.fn.lines.rest ≡ lines_fault l.next l.lines.rest;
  count : l.next + length l.lines.rest ≡ length l.fn.lines.rest + 1;
  few : length l.records.items ≤ crowd_count;
  good : All (λ (k : Lined). Good k.rec) l.records.items;
  before : length l.records.items < l.next;
  short : l.next + length l.lines.rest ≤ 2 ^ 26 + 1;
}

abbrev pub decreases-loop-text : goal.decreases-loop-text
decreases-loop-text l = length l.lines.rest
