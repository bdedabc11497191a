use Rattle.std.proofs.Common.{◌∙◌, Err, ap, ap₂, sym, subst}
use Rattle.std.proofs.lemmas.Result.{IfOk-weaker}
use Rattle.findings.specs.declared.finding.Finding.{Finding}
use Rattle.findings.specs.declared.finding.Finding.TheVariants.{Fault}
use Rattle.vocabulary.specs.Prelude.{Tables}
use Rattle.outcomes.specs.Outcome.{IsFound}
use Rattle.log_findings.specs.Findings.{IsFoundOf}
use Rattle.log_findings.proofs.lemmas.Ends.{found_in_log, fault_in_log}
use Rattle.verdict.proofs.commands.find.Goals as goal

pub returns-in-Ok-clause-found : goal.returns-in-Ok-clause-found
returns-in-Ok-clause-found c =
    let command = c.args.command in
    IfOk-weaker c.found_in.result (IsFoundOf command c.in-Ok.log) (IsFound command c.args.lines c.args.records.now.items)
    (λ (f : Finding) h. found_in_log command c.args.lines c.args.records.now.items c.in-Ok.ensures.faultless f
    (subst (λ (t : Tables). IsFoundOf command t f) c.in-Ok.ensures.tables h))
    c.found_in.ensures.found

pub returns-in-Err-Fault-clause-found : goal.returns-in-Err-Fault-clause-found
returns-in-Err-Fault-clause-found c =
    subst (IsFound c.args.command c.args.lines c.args.records.now.items)
    (sym (c.fault_found.ensures.finding ∙ ap₂ Fault c.in-Err-Fault.line-is c.in-Err-Fault.code-is))
    (fault_in_log c.args.command c.args.lines c.args.records.now.items c.in-Err-Fault.line c.in-Err-Fault.code
    (c.in-Err-Fault.ensures.fault c.in-Err-Fault.line c.in-Err-Fault.code (ap Err c.in-Err-Fault.field-0-is)))
