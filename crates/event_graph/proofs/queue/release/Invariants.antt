use Rattle.std.proofs.Common.{◌≡◌, ◌+◌, ◌==◌, ◌&&◌, ◌||◌, not, ℕ, get_or, take}
use Rattle.std.specs.BTreeSet.{contains}
use Rattle.std.specs.Ordering.{nat_cmp}
use Rattle.event_graph.specs.WaitCounts.{times}
use Rattle.event_graph.proofs.queue.release.Given as goal

abbrev pub invariant-loop-s : goal.invariant-loop-s
invariant-loop-s l = record {
  counts : (q : ℕ) → get_or l.pending.items q 0 + times q (take l.s-index l.waiting) ≡ get_or l.fn.pending.items q 0;
  queue : (q : ℕ) → contains nat_cmp l.ready q ≡
      (contains nat_cmp l.fn.ready q || (not (get_or l.fn.pending.items q 0 == 0) && (get_or l.pending.items q 0 == 0)));
}
