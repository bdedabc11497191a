use Rattle.std.proofs.Common.{◌≡◌, ◌∙◌, refl}
use Rattle.findings.specs.declared.finding.Finding.TheVariants.{Fault}
use Rattle.spy_cli.proofs.Ending.{ending_memory, ending_of}
use Rattle.spy_cli.proofs.writing.fault_written.Goals as goal

pub returns-in-Ok-clause-ends : goal.returns-in-Ok-clause-ends
returns-in-Ok-clause-ends g c =
    let r = c.in-Ok.report in
    ending_of (λ f. f ≡ Fault c.args.line c.args.code) (Fault c.args.line c.args.code) r.status c.written.result
    (g.K.Sink.held c.args.sink.now) (g.K.Sink.held c.written.new.sink)
    (g.K.Sink.faults c.args.sink.now) (g.K.Sink.faults c.written.new.sink)
    c.deref.result.now refl c.in-Ok.ensures.status_is (c.deref.ensures.value ∙ c.in-Ok.ensures.text_is) tt
    c.written.ensures.done c.written.ensures.fault

pub returns-in-Err-clause-ends : goal.returns-in-Err-clause-ends
returns-in-Err-clause-ends g c = ending_memory _ _ _ _ _
