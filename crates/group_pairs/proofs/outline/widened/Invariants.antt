use Rattle.std.proofs.Common.{◌≤◌, All, take}
use Rattle.group_pairs.proofs.outline.widened.Given as goal

abbrev pub invariant-loop-field : goal.invariant-loop-field
invariant-loop-field l = (l.low ≤ l.fn.bounds.0) × (l.fn.bounds.1 ≤ l.high)
    × All (λ f. (l.low ≤ f) × (f ≤ l.high)) (take l.field-index l.fields)
