use Rattle.std.proofs.Common.{◌≡◌, ◌++◌, flat_map}
use Rattle.provenance.specs.Listing.{kept_of, taken_by}
use Rattle.provenance.proofs.taking.push_node.Given as goal

abbrev pub invariant-loop-step : goal.invariant-loop-step
invariant-loop-step g l =
    (goal.iterator-loop-step g).can_next l.step-iterator × (goal.iterator-loop-step g).is_finite l.step-iterator
    × (l.taken.items ++ flat_map (kept_of l.field l.node) l.step-iterator ≡ l.fn.taken.items ++ taken_by l.log l.field l.node)
