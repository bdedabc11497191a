use Rattle.std.proofs.Common.{◌≡◌, ◌&&◌}
use Rattle.std.specs.Prelude.{nat_le}
use Rattle.bit_words.specs.Bits.{has_bit}
use Rattle.pair_rows.specs.Counting.{count_below}
use Rattle.pair_rows.proofs.counting.count_from.Given as goal

abbrev pub invariant-loop-j : goal.invariant-loop-j
invariant-loop-j l = l.count ≡ count_below (λ i. nat_le l.from i && has_bit l.bits i) l.j
