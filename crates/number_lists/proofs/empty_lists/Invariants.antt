use Rattle.std.proofs.Common.{◌≡◌, [], map, replicate}
use Rattle.number_lists.proofs.empty_lists.Given as goal

abbrev pub invariant-loop-i : goal.invariant-loop-i
invariant-loop-i l = map (λ list. list.items) l.lists.items ≡ replicate l._i []
