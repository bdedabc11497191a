use Rattle.pair_rows.proofs.Counts.{ones_word}
use Rattle.pair_rows.proofs.counting.ones.Goals as goal

pub returns : goal.returns
returns c = ones_word c.args.word c.ranges.word.fits
