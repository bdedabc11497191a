use Rattle.spy_cli.proofs.Reports.{same_in_long}
use Rattle.spy_cli.proofs.report_laws.answers_in_long.Goals as goal

pub returns : goal.returns
returns c = same_in_long
