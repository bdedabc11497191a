use Rattle.std.proofs.Common.{◌≡◌, ◌*◌}
use Rattle.bit_words.specs.Bits.{has_bit}
use Rattle.pair_rows.specs.Counting.{count_below}
use Rattle.pair_rows.proofs.counting.count_all.Given as goal

abbrev pub invariant-loop-k : goal.invariant-loop-k
invariant-loop-k l = l.count ≡ count_below (has_bit l.bits) (64 * l.k)
