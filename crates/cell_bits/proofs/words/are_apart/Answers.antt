use Rattle.cell_bits.proofs.BitWords.{apart_word}
use Rattle.cell_bits.proofs.words.are_apart.Goals as goal

pub returns : goal.returns
returns c = apart_word c.args.word c.args.other c.ranges.word.fits
