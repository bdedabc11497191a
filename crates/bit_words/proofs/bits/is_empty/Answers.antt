use Rattle.std.proofs.Common.{arith}
use Rattle.bit_words.proofs.lemmas.Words.{none_set, zeros_from}
use Rattle.bit_words.proofs.bits.is_empty.Goals as goal

pub returns : goal.returns
returns c = (
  λ h i lt. none_set c.args.bits.now (c.all_are.ensures.0 h) i (let n = c.told-bits in omega arith),
  λ h. c.all_are.ensures.1 (zeros_from c.args.bits.now c.fits-bits (λ i lt. h i (let n = c.told-bits in omega (arith, lt)))),
)
