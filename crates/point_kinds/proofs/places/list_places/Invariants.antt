use Rattle.std.proofs.Common.{◌≡◌, ◌≤◌, ◌-◌, filter, get_or, length}
use Rattle.std.specs.List.{range_with_len}
use Rattle.vocabulary.specs.Prelude.{is_in}
use Rattle.point_kinds.proofs.places.list_places.Given as goal

abbrev pub invariant-loop-place : goal.invariant-loop-place
invariant-loop-place g l = record {
  within : l.place ≤ length l.points;
  listed : l.places.items ≡ filter (λ k. is_in (g.P.PointSet.points l.set) (get_or l.points k 0)) (range_with_len 0 l.place);
}

abbrev pub decreases-loop-place : goal.decreases-loop-place
decreases-loop-place g l = length l.points - l.place
