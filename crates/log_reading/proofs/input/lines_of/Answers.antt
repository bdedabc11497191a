use Rattle.std.proofs.Common.{◌≡◌, ◌≤◌, ◌<◌, ◌^◌, Some, length, refl, sym, subst, arith}
use Rattle.spy_grammar.specs.declared.code.Code.TheVariants.{Newline, TooLong}
use Rattle.semantics.specs.TextFaults.{text_fault_by}
use Rattle.log_reading.proofs.lemmas.Lines.{long_by, same_end, unended}
use Rattle.log_reading.proofs.input.lines_of.Goals as goal

pub returns-then-len-gt-MOST_BYTES-clause-fault : goal.returns-then-len-gt-MOST_BYTES-clause-fault
returns-then-len-gt-MOST_BYTES-clause-fault g c line code is =
    let read = g.L.LogLine.read in
    let long_input : 2 ^ 26 < length c.args.bytes.items = omega arith in
    same_end (λ l k. text_fault_by read c.args.bytes.items ≡ Some (record { line = l; code = k })) 0 line TooLong code is
    (long_by read c.args.bytes.items long_input)

pub returns-in-Err-clause-fault : goal.returns-in-Err-clause-fault
returns-in-Err-clause-fault g c line code is =
    let read = g.L.LogLine.read in
    let at = c.in-Err.end.line in
    let few : length c.args.bytes.items ≤ 2 ^ 26 = omega arith in
    let short = subst (λ bs. length bs ≤ 2 ^ 26) (sym c.of.ensures) few in
    let shown = unended read c.of.result at short (c.in-Err.ensures.unended.0 refl) c.in-Err.ensures.line in
    same_end (λ l k. text_fault_by read c.args.bytes.items ≡ Some (record { line = l; code = k })) at line Newline code is
    (subst (λ bs. text_fault_by read bs ≡ Some (record { line = at; code = Newline })) c.of.ensures shown)
