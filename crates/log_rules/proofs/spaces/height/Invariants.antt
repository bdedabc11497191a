use Rattle.std.proofs.Common.{◌≡◌, ◌+◌, ◌-◌, length}
use Rattle.vocabulary.specs.Prelude.{upward, space_above}
use Rattle.log_rules.proofs.spaces.height.Given as goal

abbrev pub invariant-loop-up : goal.invariant-loop-up
invariant-loop-up g l = length (upward l.tables l.limit (space_above l.tables l.space))
    ≡ l.up + length (upward l.tables (l.limit - l.up) (space_above l.tables l.at))
