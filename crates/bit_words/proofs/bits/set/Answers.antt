use Rattle.std.proofs.Common.{arith}
use Rattle.bit_words.proofs.lemmas.Words.{has_set}
use Rattle.bit_words.proofs.bits.set.Goals as goal

pub returns : goal.returns
returns c = λ i lt. has_set c.args.bits.now c.args.j i (let h = c.told-bits in omega arith)
