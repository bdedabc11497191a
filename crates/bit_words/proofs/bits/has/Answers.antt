use Rattle.bit_words.proofs.lemmas.Words.{has_tests}
use Rattle.bit_words.proofs.bits.has.Goals as goal

pub returns : goal.returns
returns c = has_tests c.args.bits.now c.args.j
