use Rattle.std.proofs.Common.{◌-◌, ◌≤◌}
use Rattle.arena_sets.proofs.Cutting.{AreSoFar}
use Rattle.arena_sets.proofs.pieces.push_run.Given as goal

abbrev pub invariant-loop-end : goal.invariant-loop-end
invariant-loop-end g l = record {
  order : l.from ≤ l.last;
  pieces : AreSoFar l.fn.rects.items l.rects.items l.first l.from l.last;
}

abbrev pub decreases-loop-end : goal.decreases-loop-end
decreases-loop-end g l = l.last - l.from
