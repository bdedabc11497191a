use Rattle.std.proofs.Common.{◌≡◌, Err, ap, inl}
use Rattle.findings.specs.declared.finding.Finding.TheVariants.{Fault}
use Rattle.semantics.specs.declared.command.Command.TheVariants.{Deps}
use Rattle.outcomes.specs.Outcome.{IsOutcome}
use Rattle.spy_cli.proofs.Ending.{ending_memory, ending_so}
use Rattle.spy_cli.proofs.listing.input_listed.Goals as goal

pub log_listed-requires : goal.log_listed-requires
log_listed-requires g c = (c.args.bytes.items, c.in-Ok.ensures.input)

pub returns-in-Ok-clause-ends : goal.returns-in-Ok-clause-ends
returns-in-Ok-clause-ends g c = c.log_listed.ensures.ends c.args.bytes.items c.in-Ok.ensures.input

pub returns-in-Err-Fault-clause-ends : goal.returns-in-Err-Fault-clause-ends
returns-in-Err-Fault-clause-ends g c =
    let line = c.in-Err-Fault.line in
    let code = c.in-Err-Fault.code in
    let shown = c.in-Err-Fault.ensures.fault line code (ap Err c.in-Err-Fault.field-0-is) in
    ending_so (λ f. f ≡ Fault line code) (IsOutcome Deps c.args.bytes.items) c.fault_written.result
    (g.K.Sink.held c.args.sink.now) (g.K.Sink.held c.fault_written.new.sink)
    (g.K.Sink.faults c.args.sink.now) (g.K.Sink.faults c.fault_written.new.sink)
    (λ f is. inl (record { fault = record { line = line; code = code }; shown = shown; finding_is = is }))
    c.fault_written.ensures.ends

pub returns-in-Err-Memory-clause-ends : goal.returns-in-Err-Memory-clause-ends
returns-in-Err-Memory-clause-ends g c = ending_memory _ _ _ _ _
