use Rattle.findings.proofs.lemmas.CellLaws.{line_written}
use Rattle.findings.proofs.writing.push_lines.Goals as goal

pub loop-rest-preserved : goal.loop-rest-preserved
loop-rest-preserved g c =
    line_written g.L.Listed.line _ _ _ c.loop-rest.rest.now _ c.in-len1-up.len_at_least c.line-item.is c.loop-rest.invariant c.in_ok-push_listed_line.ensures
