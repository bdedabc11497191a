use Rattle.std.proofs.Common.{◌≡◌, ◌+◌, ◌≤◌, ◌^◌, All, List, [], length}
use Rattle.vocabulary.specs.Prelude.{Good, Lined}
use Rattle.semantics.specs.TextFaults.{lines_fault}
use Rattle.log_input.specs.Crowding.{IsCrowding}
use Rattle.log_input.specs.Lines.{IsReadTo}
use Rattle.log_input.proofs.later.later_records.Given as goal

abbrev pub invariant-loop-text : goal.invariant-loop-text
invariant-loop-text l = record {
  read : (first : List Lined) → IsCrowding first [] l.fn.crowding → IsReadTo first l.fn.number l.fn.lines.rest l.next l.lines.rest l.crowding;
  fault : lines_fault l.fn.number l.fn.lines.rest ≡ lines_fault l.next l.lines.rest;
  next : l.next + length l.lines.rest ≡ l.fn.number + length l.fn.lines.rest;
  count : l.crowding.frame.count + length l.lines.rest ≤ 2 ^ 31;
  few : length l.crowding.kept.items + length l.lines.rest ≤ length l.fn.crowding.kept.items + length l.fn.lines.rest;
  good : All (λ (k : Lined). Good k.rec) l.crowding.kept.items;
}

abbrev pub decreases-loop-text : goal.decreases-loop-text
decreases-loop-text l = length l.lines.rest
