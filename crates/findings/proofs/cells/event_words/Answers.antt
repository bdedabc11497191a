use Rattle.std.proofs.Common.{arith}
use Rattle.findings.proofs.lemmas.CellLaws.{small_fit}
use Rattle.findings.proofs.cells.event_words.Goals as goal

pub returns-clause-fits : goal.returns-clause-fits
returns-clause-fits c = small_fit c.args.events.now (λ k. let in_range = c.type_inv.events k in omega arith)
