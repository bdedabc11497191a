use Rattle.std.proofs.Common.{◌≡◌, ℕ, ◌<◌, ◌≤◌, ◌==◌, ◌&&◌, not, get_or}
use Rattle.std.specs.Int.{bit_at}
use Rattle.bit_words.proofs.bits.minus.Given as goal

abbrev pub invariant-loop-k : goal.invariant-loop-k
invariant-loop-k l = record {
  cleared : (m : ℕ) → m < l.k → (j : ℕ) → j < 64 → (bit_at (get_or l.bits m 0) j == 1) ≡
      ((bit_at (get_or l.fn.bits m 0) j == 1) && not (bit_at (get_or l.other m 0) j == 1));
  left : (m : ℕ) → l.k ≤ m → get_or l.bits m 0 ≡ get_or l.fn.bits m 0;
}
