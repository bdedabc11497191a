use Rattle.std.proofs.Common.{◌≡◌, Err, ap, ap₂, subst}
use Rattle.std.proofs.lemmas.Result.{on_ok_weaker}
use Rattle.std.specs.Io.KnownBytes.{Appends}
use Rattle.spy_io.specs.Causes.{Grows}
use Rattle.findings.specs.declared.finding.Finding.TheVariants.{Fault}
use Rattle.findings.specs.Texts.{report_text}
use Rattle.vocabulary.specs.Prelude.{Tables, tables_of}
use Rattle.semantics.specs.declared.command.Command.TheVariants.{Deps}
use Rattle.outcomes.specs.Outcome.{IsFound}
use Rattle.log_findings.specs.Findings.{deps_shown, IsFoundOf}
use Rattle.log_findings.proofs.lemmas.Ends.{found_in_log, fault_in_log}
use Rattle.verdict.proofs.written_deps.write_deps.Goals as goal

pub returns-in-Ok-clause-written : goal.returns-in-Ok-clause-written
returns-in-Ok-clause-written g c =
    let before = g.K.Sink.held c.args.sink.now in
    let after = g.K.Sink.held c.write_deps-end.new.sink in
    on_ok_weaker c.write_deps-end.result (λ h. (
      found_in_log Deps c.args.lines c.args.records.now.items c.in-Ok.ensures.faultless (deps_shown (tables_of c.args.records.now.items))
          (subst (λ (t : Tables). IsFoundOf Deps t (deps_shown t)) c.in-Ok.ensures.tables h.0),
      subst (λ (t : Tables). Appends before after (report_text (deps_shown t))) c.in-Ok.ensures.tables h.1,
    )) c.write_deps-end.ensures.written

pub returns-in-Ok-clause-part : goal.returns-in-Ok-clause-part
returns-in-Ok-clause-part g c =
    let before = g.K.Sink.held c.args.sink.now in
    let after = g.K.Sink.held c.write_deps-end.new.sink in
    λ is. let h = c.write_deps-end.ensures.part is in (
      found_in_log Deps c.args.lines c.args.records.now.items c.in-Ok.ensures.faultless (deps_shown (tables_of c.args.records.now.items))
          (subst (λ (t : Tables). IsFoundOf Deps t (deps_shown t)) c.in-Ok.ensures.tables h.0),
      subst (λ (t : Tables). Grows before after (report_text (deps_shown t))) c.in-Ok.ensures.tables h.1,
    )

pub returns-in-Ok-clause-fault : goal.returns-in-Ok-clause-fault
returns-in-Ok-clause-fault g c line code is =
    found_in_log Deps c.args.lines c.args.records.now.items c.in-Ok.ensures.faultless (Fault line code)
    (subst (λ (t : Tables). IsFoundOf Deps t (Fault line code)) c.in-Ok.ensures.tables (c.write_deps-end.ensures.fault line code is))

pub returns-in-Err-Fault-clause-fault : goal.returns-in-Err-Fault-clause-fault
returns-in-Err-Fault-clause-fault g c line code is =
    let on : c.in-Err-Fault.line ≡ line = cc (is, c.in-Err-Fault.line-is) in
    let by : c.in-Err-Fault.code ≡ code = cc (is, c.in-Err-Fault.code-is) in
    subst (IsFound Deps c.args.lines c.args.records.now.items) (ap₂ Fault on by)
    (fault_in_log Deps c.args.lines c.args.records.now.items c.in-Err-Fault.line c.in-Err-Fault.code
    (c.in-Err-Fault.ensures.fault c.in-Err-Fault.line c.in-Err-Fault.code (ap Err c.in-Err-Fault.field-0-is)))
