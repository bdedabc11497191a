use Rattle.std.proofs.Common.{sym, ◌∙◌}
use Rattle.std.proofs.lemmas.Result.{IfOk-weaker}
use Rattle.log_rules.proofs.BitRows.{row_new}
use Rattle.log_rules.proofs.cell_rows.bits_noted.Goals as goal

pub returns-in-Some : goal.returns-in-Some
returns-in-Some g c =
    IfOk-weaker c.bits_declared.result _ _
    (λ found told all grid. row_new all c.in-Some.grid c.args.tables.now c.args.rec.now found (sym c.in-Some.is ∙ grid) told)
    c.bits_declared.ensures
