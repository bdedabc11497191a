use Rattle.std.proofs.Common.{arith, ◌/◌}
use Rattle.bit_words.proofs.lemmas.Words.{has_less}
use Rattle.bit_words.proofs.bits.minus.Goals as goal

pub returns : goal.returns
returns c = λ i lt. has_less c.loop-k.bits c.args.bits.now c.args.other.now i (c.loop-k.invariant.cleared (i / 64) (omega arith))
