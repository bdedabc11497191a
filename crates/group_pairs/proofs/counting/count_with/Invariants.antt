use Rattle.std.proofs.Common.{◌≡◌, count_by, map, take}
use Rattle.group_pairs.specs.Sides.{are_apart}
use Rattle.group_pairs.proofs.counting.count_with.Given as goal

abbrev pub invariant-loop-other : goal.invariant-loop-other
invariant-loop-other g l = l.count ≡ count_by (are_apart l.one.side.now) (map (λ p. p.side.now) (take l.other-index l.others))
