use Rattle.std.proofs.Common.{sym}
use Rattle.log_rules.proofs.BitRows.{row_kept, within_rows}
use Rattle.log_rules.proofs.cell_rows.CellRows.within.Goals as goal

pub returns-in-Some-Some : goal.returns-in-Some-Some
returns-in-Some-Some c = λ all t cells rows.
    let found = c.in-Some-Some in
    let kept = c.args.self.now in
    within_rows all t c.args.ours c.args.theirs found.bits.now found.others.now c.within.result cells
    (row_kept all t kept c.args.ours found.bits.now rows (sym found.ensures.value))
    (row_kept all t kept c.args.theirs found.others.now rows (sym found.ensures'.value)) c.within.ensures
