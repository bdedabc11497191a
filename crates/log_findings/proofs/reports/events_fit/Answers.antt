use Rattle.std.proofs.Common.{arith}
use Rattle.findings.proofs.lemmas.CellLaws.{small_fit}
use Rattle.log_findings.proofs.reports.events_fit.Goals as goal

pub returns : goal.returns
returns c = small_fit c.args.events.now (λ k. let in_range = c.type_inv.events k in omega arith)
