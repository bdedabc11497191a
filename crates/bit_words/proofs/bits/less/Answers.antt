use Rattle.bit_words.proofs.lemmas.Words.{word_less}
use Rattle.bit_words.proofs.bits.less.Goals as goal

pub returns : goal.returns
returns c = λ i lt. word_less c.args.word c.args.other i c.ranges.other.fits lt
