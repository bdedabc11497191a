use Rattle.std.proofs.Common.{filter, take}
use Rattle.point_set.specs.Least.{IsGreatestOf}
use Rattle.vocabulary.specs.Prelude.{is_in}
use Rattle.listed_sets.proofs.common.last_common.Given as goal

abbrev pub invariant-loop-point : goal.invariant-loop-point
invariant-loop-point g l = IsGreatestOf (filter (is_in (g.P.PointSet.points l.set)) (take l.point-index l.listed)) l.last
