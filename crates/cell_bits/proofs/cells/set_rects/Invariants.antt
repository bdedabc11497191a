use Rattle.std.proofs.Common.{◌≡◌, ◌↔◌, ◌⊎◌, true, ℕ, List, length}
use Rattle.point_set.specs.declared.rect.Rect.{Rect}
use Rattle.grid.specs.Cuts.{grid_of}
use Rattle.bit_words.specs.Bits.{has_bit}
use Rattle.cell_bits.specs.Bits.{TouchesSome}
use Rattle.cell_bits.proofs.cells.set_rects.Given as goal

abbrev pub invariant-loop-i : goal.invariant-loop-i
invariant-loop-i l = record {
  words : length l.words ≡ length l.fn.words;
  bits : (all : List Rect) → l.grid ≡ grid_of all → (n : ℕ)
      → (has_bit l.words n ≡ true) ↔ ((has_bit l.fn.words n ≡ true) ⊎ TouchesSome l.grid l.rects l.i n);
}
