use Rattle.std.proofs.Common.{◌≡◌, ◌+◌, ◌<◌, ◌^◌, length, filter}
use Rattle.interference.specs.Pairing.{all_pairs}
use Rattle.interference.specs.Tasks.{are_tasks}
use Rattle.interference.proofs.tasks.task_pair_count.Given as goal

abbrev pub invariant-loop-pair : goal.invariant-loop-pair
invariant-loop-pair g l =
    (goal.iterator-loop-pair g).can_next l.pair-iterator × (goal.iterator-loop-pair g).is_finite l.pair-iterator
    × (length (filter (are_tasks l.items) (all_pairs l.fn.log)) ≡ l.count + length (filter (are_tasks l.items) l.pair-iterator))
    × (length (filter (are_tasks l.items) (all_pairs l.fn.log)) < 2 ^ 64)
