use Rattle.std.proofs.Common.{◌≡◌, Err, ap, refl, subst, sym}
use Rattle.findings.specs.declared.finding.Finding.TheVariants.{Fault}
use Rattle.vocabulary.specs.Prelude.{tables_of}
use Rattle.semantics.specs.declared.command.Command.TheVariants.{Deps}
use Rattle.outcomes.specs.Outcome.{IsFound}
use Rattle.verdict.specs.Findings.{deps_shown}
use Rattle.spy_cli.specs.declared.status.Status.TheVariants.{Yes}
use Rattle.spy_cli.specs.Endings.{IsEnding}
use Rattle.spy_cli.proofs.Ending.{ending_memory, ending_part, ending_so, ending_told}
use Rattle.spy_cli.proofs.listing.records_listed.Goals as goal

pub returns-in-Ok-clause-ends : goal.returns-in-Ok-clause-ends
returns-in-Ok-clause-ends g c =
    let found = c.in-Ok.ensures.written in
    ending_told (IsFound Deps c.args.lines c.args.records.now.items) Yes
    (g.K.Sink.held c.args.sink.now) (g.K.Sink.held c.write_deps.new.sink)
    (g.K.Sink.faults c.args.sink.now) (g.K.Sink.faults c.write_deps.new.sink) tt
    (record { finding = deps_shown (tables_of c.args.records.now.items); holds = found.0; status_is = refl; written = found.1 })
    c.in-Ok.ensures.no_fault

pub returns-in-Err-Fault-clause-ends : goal.returns-in-Err-Fault-clause-ends
returns-in-Err-Fault-clause-ends g c =
    let line = c.in-Err-Fault.line in
    let code = c.in-Err-Fault.code in
    let was = ap Err c.in-Err-Fault.field-0-is in
    let found = c.in-Err-Fault.ensures.fault line code was in
    let ending = ending_so (λ f. f ≡ Fault line code) (IsFound Deps c.args.lines c.args.records.now.items) c.fault_written.result
    (g.K.Sink.held c.write_deps.new.sink) (g.K.Sink.held c.fault_written.new.sink)
    (g.K.Sink.faults c.write_deps.new.sink) (g.K.Sink.faults c.fault_written.new.sink)
    (λ f is. subst (IsFound Deps c.args.lines c.args.records.now.items) (sym is) found) c.fault_written.ensures.ends in
    subst (λ sink. IsEnding (IsFound Deps c.args.lines c.args.records.now.items) c.fault_written.result
    (g.K.Sink.held sink) (g.K.Sink.held c.fault_written.new.sink)
    (g.K.Sink.faults sink) (g.K.Sink.faults c.fault_written.new.sink)) (c.in-Err-Fault.ensures.unwritten line code was) ending

pub returns-in-Err-WriteFault-clause-ends : goal.returns-in-Err-WriteFault-clause-ends
returns-in-Err-WriteFault-clause-ends g c =
    let was = ap Err c.in-Err-WriteFault.field-0-is in
    let found = c.in-Err-WriteFault.ensures.part was in
    ending_part (IsFound Deps c.args.lines c.args.records.now.items)
    (g.K.Sink.held c.args.sink.now) (g.K.Sink.held c.write_deps.new.sink)
    (g.K.Sink.faults c.args.sink.now) (g.K.Sink.faults c.write_deps.new.sink)
    (record { finding = deps_shown (tables_of c.args.records.now.items); holds = found.0; written = found.1 })
    (c.in-Err-WriteFault.ensures.rose was)

pub returns-in-Err-Memory-clause-ends : goal.returns-in-Err-Memory-clause-ends
returns-in-Err-Memory-clause-ends g c = ending_memory _ _ _ _ _
