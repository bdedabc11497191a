use Rattle.overlaps.proofs.Lists.{rows_from}
use Rattle.overlaps.proofs.rows.shared_row.Goals as goal

pub returns-in-None : goal.returns-in-None
returns-in-None c = rows_from c.args.ours.now c.args.theirs.now c.in_default.ensures c.in-None.ensures
