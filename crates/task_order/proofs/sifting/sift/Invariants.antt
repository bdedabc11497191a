use Rattle.std.proofs.Common.{◌≡◌, ℕ, ◌+◌, ◌<◌, ◌≤◌, ◌&&◌, ◌||◌, length}
use Rattle.cell_races.specs.Turns.{is_noted}
use Rattle.pair_rows.specs.Meetings.{row_bit}
use Rattle.task_order.proofs.sifting.sift.Given as goal

abbrev pub invariant-loop-a : goal.invariant-loop-a
invariant-loop-a l = record {
  rows : length l.rows.items ≡ length l.fn.rows.items;
  done : (a i : ℕ) → a < length l.fn.rows.items → i < 1024 → a < l.a
      → row_bit l.rows.items a i ≡ (row_bit l.fn.rows.items a i && (is_noted l.unordered a || is_noted l.unordered (l.base + i)));
  left : (a i : ℕ) → a < length l.fn.rows.items → i < 1024 → l.a ≤ a → row_bit l.rows.items a i ≡ row_bit l.fn.rows.items a i;
}
