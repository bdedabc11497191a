use Rattle.std.proofs.Common.{◌≡◌, ◌+◌, ◌*◌, ◌≤◌, All, length, map}
use Rattle.group_pairs.specs.Outlines.{IsParty}
use Rattle.group_pairs.specs.Sides.{pairs_apart}
use Rattle.group_pairs.proofs.counting.count_pairs.Given as goal

abbrev pub invariant-loop-left : goal.invariant-loop-left
invariant-loop-left g l =
    (l.count + pairs_apart (map (λ p. p.side.now) l.left) ≡ pairs_apart (map (λ p. p.side.now) l.fn.parties))
    × (l.count + 65536 * length l.left ≤ 65536 * length l.fn.parties) × (length l.left ≤ 65536) × All (IsParty l.ground) l.left

abbrev pub decreases-loop-left : goal.decreases-loop-left
decreases-loop-left g l = length l.left
