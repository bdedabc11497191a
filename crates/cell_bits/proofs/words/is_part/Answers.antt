use Rattle.cell_bits.proofs.BitWords.{part_word}
use Rattle.cell_bits.proofs.words.is_part.Goals as goal

pub returns : goal.returns
returns c = part_word c.args.word c.args.other c.ranges.word.fits c.ranges.other.fits
