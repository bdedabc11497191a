use Rattle.spy_cli.proofs.Reports.{again, found_again}
use Rattle.spy_cli.proofs.report_laws.printed_again.Goals as goal

pub returns-clause-print : goal.returns-clause-print
returns-clause-print c = again

pub returns-clause-found : goal.returns-clause-found
returns-clause-found c = found_again
