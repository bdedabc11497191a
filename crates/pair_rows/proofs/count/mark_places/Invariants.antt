use Rattle.std.proofs.Common.{◌≡◌, ℕ, ◌+◌, ◌<◌, ◌||◌, length, take}
use Rattle.pair_rows.specs.Meetings.{met_at_some, row_bit}
use Rattle.pair_rows.proofs.count.mark_places.Given as goal

abbrev pub invariant-loop-k : goal.invariant-loop-k
invariant-loop-k l = record {
  rows : length l.rows.items ≡ length l.fn.rows.items;
  bits : (a i : ℕ) → a < length l.fn.rows.items → i < 1024
      → row_bit l.rows.items a i ≡ (row_bit l.fn.rows.items a i || met_at_some (take l.k l.places) a (l.base + i));
}
