use Rattle.std.proofs.Common.{arith}
use Rattle.cell_bits.proofs.words.set.Goals as goal
use Rattle.bit_words.proofs.lemmas.Words.{has_set}

pub returns-clause-bits : goal.returns-clause-bits
returns-clause-bits c = λ n. has_set c.args.words.now c.args.j n (let within = c.requires in omega (arith, within))
