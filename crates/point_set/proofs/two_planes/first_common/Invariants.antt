use Rattle.std.proofs.Common.{◌-◌, ◌^◌}
use Rattle.point_set.specs.Rects.{Has}
use Rattle.point_set.proofs.Compared.{IsFree}
use Rattle.point_set.proofs.two_planes.first_common.Given as goal

abbrev pub invariant-loop-column : goal.invariant-loop-column
invariant-loop-column l = IsFree l.ours (Has l.theirs) l.from

abbrev pub decreases-loop-column : goal.decreases-loop-column
decreases-loop-column l = 2 ^ 32 - l.from
