use Rattle.std.proofs.Common.{rules, arith}
use Rattle.std.proofs.lemmas.List.Sorted.{IsNonDecreasingBy-from_sort_by_key}
use Rattle.point_set.specs.declared.rect.Rect.{Rect}
use Rattle.overlaps.proofs.meeting.sort_by_row.Goals as goal

pub returns-clause-order : goal.returns-clause-order
returns-clause-order c = let up = IsNonDecreasingBy-from_sort_by_key
    (λ (r : Rect). r.y0) c.sort_unstable_by_key.new.self.items c.sort_unstable_by_key.ensures.sorted (λ a r f called. search rules) in
    λ i j d lt within. up i j d (omega arith) within
