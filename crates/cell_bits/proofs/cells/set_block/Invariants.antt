use Rattle.std.proofs.Common.{◌≡◌, ◌↔◌, ◌⊎◌, true, ℕ, length}
use Rattle.bit_words.specs.Bits.{has_bit}
use Rattle.cell_bits.specs.Bits.{IsInBlock}
use Rattle.cell_bits.proofs.cells.set_block.Given as goal

abbrev pub invariant-loop-k : goal.invariant-loop-k
invariant-loop-k l = record {
  words : length l.words ≡ length l.fn.words;
  bits : (n : ℕ) → (has_bit l.words n ≡ true) ↔ ((has_bit l.fn.words n ≡ true) ⊎ IsInBlock l.rows l.block.left l.k l.block.low l.block.high n);
}
