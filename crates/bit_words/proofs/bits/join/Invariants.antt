use Rattle.std.proofs.Common.{◌≡◌, ℕ, ◌<◌, ◌≤◌, get_or}
use Rattle.std.specs.Prelude.{bit_or}
use Rattle.bit_words.proofs.bits.join.Given as goal

abbrev pub invariant-loop-k : goal.invariant-loop-k
invariant-loop-k l = record {
  joined : (m : ℕ) → m < l.k → get_or l.bits m 0 ≡ bit_or (get_or l.fn.bits m 0) (get_or l.other m 0);
  left : (m : ℕ) → l.k ≤ m → get_or l.bits m 0 ≡ get_or l.fn.bits m 0;
}
