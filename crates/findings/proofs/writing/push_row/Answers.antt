use Rattle.findings.proofs.lemmas.CellLaws.{cell_written}
use Rattle.findings.proofs.writing.push_row.Goals as goal

pub loop-rest-preserved : goal.loop-rest-preserved
loop-rest-preserved c =
    cell_written _ _ _ c.loop-rest.rest.now _ c.in-len1-up.len_at_least c.cell-item.is c.loop-rest.invariant c.in_ok-push_cell.ensures
