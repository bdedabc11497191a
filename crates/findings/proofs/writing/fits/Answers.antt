use Rattle.findings.proofs.lemmas.CellLaws.{all_fit}
use Rattle.findings.proofs.writing.fits.Goals as goal

pub returns : goal.returns
returns c = all_fit c.args.f.now c.listed_fit.result c.own_words-own.ensures.fits c.listed_fit.ensures
