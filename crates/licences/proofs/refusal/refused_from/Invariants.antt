use Rattle.std.proofs.Common.{ℕ, ◌-◌, ◌^◌, ◌≤◌}
use Rattle.licences.specs.Reach.{IsRefusedAt}
use Rattle.licences.proofs.refusal.refused_from.Given as goal

-- no point below `from` is refused
abbrev pub invariant-loop-point : goal.invariant-loop-point
invariant-loop-point g l = (x : ℕ) → IsRefusedAt l.all l.asked l.field x → l.from ≤ x

abbrev pub decreases-loop-point : goal.decreases-loop-point
decreases-loop-point g l = 2 ^ 64 - l.from
