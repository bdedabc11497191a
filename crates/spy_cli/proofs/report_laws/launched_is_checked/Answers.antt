use Rattle.spy_cli.proofs.Expanding.{checked_alike}
use Rattle.spy_cli.proofs.report_laws.launched_is_checked.Goals as goal

pub returns : goal.returns
returns c = checked_alike
