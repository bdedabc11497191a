use Rattle.std.proofs.Common.{◌≡◌, ℕ, ◌+◌, ◌*◌, ◌<◌, ◌≤◌, length, get_or}
use Rattle.item_uses.specs.declared.span.Span.{Span}
use Rattle.item_uses.specs.Spans.{Bounds}
use Rattle.item_uses.specs.Usages.{usages_at}
use Rattle.item_uses.proofs.blocks.spans_of_blocks.Given as goal

abbrev pub invariant-loop-k : goal.invariant-loop-k
invariant-loop-k g l = record {
  long : length l.blocks.items ≡ l.k;
  bounds : (k i : ℕ) (d : Span) → k < length l.blocks.items → 64 * k ≤ i → i < 64 * k + 64 → i < length l.items
      → Bounds (get_or l.blocks.items k d) (usages_at l.items i);
}
