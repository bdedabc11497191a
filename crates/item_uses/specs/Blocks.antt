-- Bounds on blocks of items.
use Rattle.std.specs.Prelude.{ℕ, ◌+◌, ◌*◌, ◌<◌, ◌≤◌, List, length, slice_index_or}
use Rattle.item_uses.specs.declared.span.Span.{Span}
use Rattle.item_uses.specs.Usages.{Usage, usages_at}
use Rattle.item_uses.specs.Spans.{Bounds}

-- Each 64 items, from the first on, have their bounds.
pub record AreBlocks (blocks : List Span) (us : List (List Usage)) : Type 0 where
  pub long : length us ≤ 64 * length blocks
  pub bounds : (k i : ℕ) (d : Span) → k < length blocks → 64 * k ≤ i → i < 64 * k + 64 → i < length us
      → Bounds (slice_index_or blocks k d) (usages_at us i)
