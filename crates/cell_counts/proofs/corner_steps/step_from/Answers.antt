use Rattle.std.proofs.Common.{◌≡◌, ◌+◌, ◌*◌, ◌^◌, sym, subst, ◌∙◌, arith}
use Rattle.cell_counts.specs.Steps.{NoneBegin}
use Rattle.cell_counts.proofs.Steps.{no_column, no_row, column_after}
use Rattle.cell_counts.proofs.corner_steps.step_from.Goals as goal

pub returns-then-not-begins_column-clause-step : goal.returns-then-not-begins_column-clause-step
returns-then-not-begins_column-clause-step c = λ all is.
    let at = c.column_and_row-x.ensures in
    let none = c.if-not-begins_column.true in
    let end = c.column_end.ensures in
    column_after all c.args.p c.column_end.result c.column_after.result c.column_after.ensures
    (no_column all c.column_and_row-x.result.0 c.column_and_row-x.result.1 c.column_end.result c.args.p at.0 at.2
    (sym (c.begins_column.ensures all is) ∙ none) (end.uncut all is))

pub returns-then-last-clause-step : goal.returns-then-last-clause-step
returns-then-last-clause-step c = λ all is.
    let at = c.column_and_row-x.ensures in
    let x = c.column_and_row-x.result.0 in
    let next : x * 2 ^ 32 + (c.row_end-last.result + 1) ≡ (x + 1) * 2 ^ 32 = omega (arith, c.if-last.true) in
    column_after all c.args.p x c.column_after-then-last.result c.column_after-then-last.ensures
    (subst (NoneBegin all c.args.p) next
    (no_row all x c.column_and_row-x.result.1 c.row_end-last.result c.args.p at.0 at.2 (omega arith) (c.row_end-last.ensures.uncut all is)))

pub returns-clause-step : goal.returns-clause-step
returns-clause-step c = λ all is.
    let at = c.column_and_row-x.ensures in
    subst (NoneBegin all c.args.p) (sym c.point.ensures)
    (no_row all c.column_and_row-x.result.0 c.column_and_row-x.result.1 c.row_end-last.result c.args.p at.0 at.2 (omega arith)
    (c.row_end-last.ensures.uncut all is))
