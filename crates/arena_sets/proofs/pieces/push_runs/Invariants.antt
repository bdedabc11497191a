use Rattle.std.proofs.Common.{ℕ, ◌-◌, ◌^◌}
use Rattle.std.specs.Option.{option_map_or}
use Rattle.point_set.specs.Least.{IsLeastFrom}
use Rattle.arena_sets.proofs.Cutting.{AreBefore}
use Rattle.arena_sets.proofs.pieces.push_runs.Given as goal

-- the points before the next one, which is the least from `low` on
abbrev pub invariant-loop-next : goal.invariant-loop-next
invariant-loop-next g l = (low : ℕ) × IsLeastFrom (g.P.PointSet.points l.set) low l.next
    × AreBefore l.fn.rects.items l.rects.items (g.P.PointSet.points l.set) l.next

abbrev pub decreases-loop-next : goal.decreases-loop-next
decreases-loop-next g l = option_map_or (λ p. 2 ^ 64 - p) l.next 0
