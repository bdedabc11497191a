use Rattle.std.proofs.Common.{◌≡◌, ℕ, ◌+◌, ◌-◌, ◌<◌, ◌≤◌, ◌||◌, length, take, drop}
use Rattle.pair_rows.specs.Meetings.{met, row_bit}
use Rattle.pair_rows.proofs.Classes.{IsApart}
use Rattle.pair_rows.proofs.rows.mark_place.Given as goal

abbrev pub invariant-loop-from : goal.invariant-loop-from
invariant-loop-from l = record {
  within : l.from ≤ length l.users;
  rows : length l.rows.items ≡ length l.fn.rows.items;
  apart : IsApart (take l.from l.users) (drop l.from l.users);
  bits : (a i : ℕ) → a < length l.fn.rows.items → i < 1024 → row_bit l.rows.items a i ≡
      (row_bit l.fn.rows.items a i || met (take l.from l.users) l.users a (l.base + i));
}

abbrev pub decreases-loop-from : goal.decreases-loop-from
decreases-loop-from l = length l.users - l.from
