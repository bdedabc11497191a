use Rattle.std.proofs.Common.{sym, subst, arith}
use Rattle.vocabulary.specs.Prelude.{AreLinesBy}
use Rattle.log_reading.proofs.lemmas.Numbered.{are_lines_by, held_good}
use Rattle.log_reading.proofs.input.records_of.Goals as goal

pub returns-clause-good : goal.returns-clause-good
returns-clause-good g c =
    held_good g.L.LogLine.good g.L.LogLine.spelled g.L.LogLine.on g.L.LogLine.rec_of g.met.L.LogLine.rec_is 1 c.args.list c.in_ok-input.input.records.items c.in_ok-input.ensures.held

pub returns-clause-lines : goal.returns-clause-lines
returns-clause-lines g c =
    let read = c.in_ok-input.input.records.items in
    let count = c.in_ok-input.ensures.count in
    let few = c.in_ok-input.ensures.few in
    subst (λ n. AreLinesBy g.L.LogLine.line_of n read) (sym count)
    (are_lines_by g.L.LogLine.good g.L.LogLine.spelled g.L.LogLine.on g.L.LogLine.line_of g.met.L.LogLine.line_is c.args.list read c.in_ok-input.ensures.held (omega (arith, few, count)))
