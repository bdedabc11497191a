use Rattle.std.proofs.Common.{arith, ◌/◌}
use Rattle.bit_words.proofs.lemmas.Words.{has_both}
use Rattle.bit_words.proofs.bits.join.Goals as goal

pub returns : goal.returns
returns c = λ i lt. has_both c.loop-k.bits c.args.bits.now c.args.other.now i (c.loop-k.invariant.joined (i / 64) (omega arith))
