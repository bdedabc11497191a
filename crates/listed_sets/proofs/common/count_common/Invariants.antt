use Rattle.std.proofs.Common.{◌≡◌, filter, length, take}
use Rattle.vocabulary.specs.Prelude.{is_in}
use Rattle.listed_sets.proofs.common.count_common.Given as goal

abbrev pub invariant-loop-point : goal.invariant-loop-point
invariant-loop-point g l = l.count ≡ length (filter (is_in (g.P.PointSet.points l.set)) (take l.point-index l.listed))
