use Rattle.std.proofs.Common.{ℕ, ◌<◌, ◌≤◌}
use Rattle.item_uses.specs.Spans.{Bounds}
use Rattle.item_uses.specs.Usages.{usages_at}
use Rattle.item_uses.proofs.blocks.span_of.Given as goal

abbrev pub invariant-loop-i : goal.invariant-loop-i
invariant-loop-i g l = (j : ℕ) → l.fn.from ≤ j → j < l.i → Bounds l.span (usages_at l.items j)
