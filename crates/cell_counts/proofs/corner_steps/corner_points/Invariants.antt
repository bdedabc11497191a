use Rattle.std.proofs.Common.{◌≡◌, ◌-◌, ◌^◌, List}
use Rattle.std.specs.Option.{option_map_or}
use Rattle.point_set.specs.declared.rect.Rect.{Rect}
use Rattle.grid.specs.Cuts.{grid_of}
use Rattle.cell_counts.proofs.CornersSoFar.{AreSoFar}
use Rattle.cell_counts.proofs.corner_steps.corner_points.Given as goal

abbrev pub invariant-loop-next : goal.invariant-loop-next
invariant-loop-next g l = (all : List Rect) → l.grid ≡ grid_of all → AreSoFar all (g.P.PointSet.points l.set) l.corners.items l.next

abbrev pub decreases-loop-next : goal.decreases-loop-next
decreases-loop-next g l = option_map_or (λ n. 2 ^ 64 - n) l.next 0
