use Rattle.std.proofs.Common.{◌≡◌, ℕ, ◌<◌, ◌||◌, ◌&&◌, length, take}
use Rattle.bit_words.specs.Bits.{has_bit}
use Rattle.pair_rows.specs.Meetings.{row_bit, uses_it}
use Rattle.pair_rows.proofs.rows.mark.Given as goal

abbrev pub invariant-loop-user : goal.invariant-loop-user
invariant-loop-user l = record {
  rows : length l.rows.items ≡ length l.fn.rows.items;
  bits : (a i : ℕ) → a < length l.fn.rows.items → i < 1024 → row_bit l.rows.items a i ≡
      (row_bit l.fn.rows.items a i || (uses_it (take l.user-index l.users) a && has_bit l.mask i));
}
