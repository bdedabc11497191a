use Rattle.std.proofs.Common.{◌≡◌, ◌||◌, ◌&&◌, nat_lt, ℕ, length}
use Rattle.std.specs.Prelude.{nat_le}
use Rattle.bit_words.specs.Bits.{has_bit}
use Rattle.cell_bits.proofs.words.set_between.Given as goal

abbrev pub invariant-loop-j : goal.invariant-loop-j
invariant-loop-j l = record {
  words : length l.words ≡ length l.fn.words;
  bits : (n : ℕ) → has_bit l.words n ≡ (has_bit l.fn.words n || (nat_le l.from n && nat_lt n l.j));
}
