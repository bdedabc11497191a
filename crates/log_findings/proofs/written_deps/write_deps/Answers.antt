use Rattle.std.proofs.Common.{◌∙◌, sym}
use Rattle.log_findings.proofs.Writings.{shown_is_found}
use Rattle.log_findings.proofs.written_deps.write_deps.Goals as goal

pub returns-in_err-write_found-clause-part : goal.returns-in_err-write_found-clause-part
returns-in_err-write_found-clause-part g c =
    λ _. (shown_is_found c.args.log.now (sym c.serial_fault.ensures ∙ c.in_default.is), c.in_err-write_found.ensures.part)

pub returns-clause-written : goal.returns-clause-written
returns-clause-written g c =
    (shown_is_found c.args.log.now (sym c.serial_fault.ensures ∙ c.in_default.is), c.in_ok-write_found.ensures.all)
