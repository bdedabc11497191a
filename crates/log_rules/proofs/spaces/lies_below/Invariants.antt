use Rattle.std.proofs.Common.{◌≡◌, ◌-◌}
use Rattle.vocabulary.specs.Prelude.{upward, space_above, is_in}
use Rattle.log_rules.proofs.spaces.lies_below.Given as goal

abbrev pub invariant-loop-up : goal.invariant-loop-up
invariant-loop-up g l = is_in (upward l.tables l.limit (space_above l.tables l.space)) l.root
    ≡ is_in (upward l.tables (l.limit - l._up) (space_above l.tables l.at)) l.root
