use Rattle.std.proofs.Common.{◌≡◌, ◌+◌, ◌-◌, ◌≤◌, length}
use Rattle.covered_cells.specs.Marks.{AreCounted, StandBefore}
use Rattle.covered_cells.proofs.sweep.advance.Given as goal

abbrev pub invariant-loop-next : goal.invariant-loop-next
invariant-loop-next l = record {
  high : l.next ≤ length l.marks;
  same : length l.counts.items ≡ length l.fn.counts.items;
  counted : AreCounted l.marks l.next l.counts.items;
  before : StandBefore l.marks l.next (l.k + 1);
}

abbrev pub decreases-loop-next : goal.decreases-loop-next
decreases-loop-next l = length l.marks - l.next
