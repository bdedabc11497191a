use Rattle.std.proofs.Common.{◌≡◌, ℕ, ◌<◌, true, get_or}
use Rattle.interference.specs.Pairing.{is_asked, asked_of}
use Rattle.interference.proofs.partners.alike_end.Given as goal

abbrev pub invariant-loop-i : goal.invariant-loop-i
invariant-loop-i l = record {
  same : (i : ℕ) → l.b < i → i < l.i → get_or l.representatives i 0 ≡ get_or l.representatives l.b 0;
  asks : (i : ℕ) → l.b < i → i < l.i → is_asked (asked_of l.asked) l.a i ≡ true;
}
