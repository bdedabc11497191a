use Rattle.spy_cli.proofs.Cut.{cut_shows}
use Rattle.spy_cli.proofs.report_laws.cut_logs_show_it.Goals as goal

pub returns : goal.returns
returns c = cut_shows
