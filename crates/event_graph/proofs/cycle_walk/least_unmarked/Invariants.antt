use Rattle.std.proofs.Common.{◌≡◌, ◌==◌, ◌<◌, ◌≤◌, ℕ, true, false, get_or, take, length}
use Rattle.std.specs.List.{list_any}
use Rattle.event_graph.proofs.cycle_walk.least_unmarked.Given as goal

abbrev pub invariant-loop-p : goal.invariant-loop-p
invariant-loop-p l = record {
  within : l.best ≤ length l.marks;
  found : l.best < length l.marks → (get_or l.marks l.best false ≡ false)
      × (list_any (λ p. p == l.best) (take l.p-index l.numbers) ≡ true);
  least : (j : ℕ) → j < l.best → get_or l.marks j false ≡ false
      → list_any (λ p. p == j) (take l.p-index l.numbers) ≡ false;
}
