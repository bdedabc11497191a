use Rattle.std.proofs.Common.{sym, ◌∙◌, ap, length, arith}
use Rattle.spy_lines.proofs.Cuts.{first_line, no_line}
use Rattle.spy_lines.proofs.line_list.LineIterIterator.next.Goals as goal

pub returns-in_err-end-clause-steps : goal.returns-in_err-end-clause-steps
returns-in_err-end-clause-steps c =
    let none = sym c.self.view_is ∙ no_line c.self.inside.rest.now c.in_err-end.ensures in
    rw c.from_residual.ensures (none, none)

pub returns-clause-steps : goal.returns-clause-steps
returns-clause-steps c = sym c.self.view_is ∙ first_line c.in_ok-end.end c.self.inside.rest.now c.in_ok-end.ensures

pub returns-clause-goes : goal.returns-clause-goes
returns-clause-goes c =
    let cut = ap length (sym c.self.view_is ∙ first_line c.in_ok-end.end c.self.inside.rest.now c.in_ok-end.ensures) in
    record { on = λ finite. (tt, tt, omega (arith, cut)); keeps = tt; rests = λ finite. tt }
