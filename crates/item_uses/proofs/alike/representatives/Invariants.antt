use Rattle.std.proofs.Common.{◌≡◌, ℕ, ◌<◌, length, get_or}
use Rattle.item_uses.specs.Usages.{usages_at}
use Rattle.item_uses.specs.Representatives.{AreAlike}
use Rattle.item_uses.proofs.alike.representatives.Given as goal

abbrev pub invariant-loop-i : goal.invariant-loop-i
invariant-loop-i g l = record {
  each : length l.chosen.items ≡ l.i;
  alike : (k d : ℕ) → k < length l.chosen.items → AreAlike (usages_at l.items (get_or l.chosen.items k d)) (usages_at l.items k);
}
