use Rattle.std.proofs.Common.{◌≡◌, ◌<◌, ◌≤◌, ℕ, true, false, [], get_or, length}
use Rattle.bit_words.specs.Bits.{has_bit}
use Rattle.reach_marks.proofs.unions.first_blocks.Given as goal

abbrev pub invariant-loop-k : goal.invariant-loop-k
invariant-loop-k l = record {
  each : length l.blocks.items ≡ l.k;
  whole : (m i : ℕ) → m < l.front → m < l.k → i < 1024 → has_bit (get_or l.blocks.items m []) i ≡ true;
  none : (m i : ℕ) → l.front ≤ m → m < l.k → i < 1024 → has_bit (get_or l.blocks.items m []) i ≡ false;
}
