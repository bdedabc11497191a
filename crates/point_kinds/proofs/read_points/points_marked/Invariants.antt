use Rattle.std.proofs.Common.{◌≡◌}
use Rattle.point_kinds.proofs.Marking.{marked_upto}
use Rattle.point_kinds.proofs.read_points.points_marked.Given as goal

abbrev pub invariant-loop-k : goal.invariant-loop-k
invariant-loop-k l = l.some.items ≡ marked_upto l.points l.marks l.k
