use Rattle.spy_cli.proofs.Reports.{same_answer}
use Rattle.spy_cli.proofs.report_laws.one_report.Goals as goal

pub returns : goal.returns
returns c = same_answer
