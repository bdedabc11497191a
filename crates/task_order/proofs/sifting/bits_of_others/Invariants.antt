use Rattle.std.proofs.Common.{◌≡◌, ℕ, ◌+◌, ◌<◌, ◌&&◌, not, nat_lt}
use Rattle.cell_races.specs.Turns.{is_noted}
use Rattle.bit_words.specs.Bits.{has_bit}
use Rattle.task_order.proofs.sifting.bits_of_others.Given as goal

abbrev pub invariant-loop-i : goal.invariant-loop-i
invariant-loop-i l = (i : ℕ) → i < 1024 → has_bit l.bits i ≡ (nat_lt i l.i && not (is_noted l.unordered (l.base + i)))
