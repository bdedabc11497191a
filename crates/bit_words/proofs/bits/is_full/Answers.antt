use Rattle.std.proofs.Common.{arith}
use Rattle.bit_words.proofs.lemmas.Words.{all_set, ones_from}
use Rattle.bit_words.proofs.bits.is_full.Goals as goal

pub returns : goal.returns
returns c = (
  λ h i lt. all_set c.args.bits.now (c.all_are.ensures.0 h) i (let n = c.told-bits in omega arith),
  λ h. c.all_are.ensures.1 (ones_from c.args.bits.now c.fits-bits (λ i lt. h i (let n = c.told-bits in omega (arith, lt)))),
)
