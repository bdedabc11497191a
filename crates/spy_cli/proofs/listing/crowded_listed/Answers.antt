use Rattle.std.proofs.Common.{◌≡◌, subst, sym}
use Rattle.findings.specs.declared.finding.Finding.TheVariants.{Fault}
use Rattle.semantics.specs.declared.command.Command.TheVariants.{Deps}
use Rattle.outcomes.specs.Outcome.{IsOutcome}
use Rattle.spy_cli.proofs.Ending.{ending_memory, ending_so}
use Rattle.spy_cli.proofs.listing.crowded_listed.Goals as goal

pub returns-in-Ok-clause-ends : goal.returns-in-Ok-clause-ends
returns-in-Ok-clause-ends g c bytes spelled =
    let fault = c.in-Ok.fault in
    ending_so (λ f. f ≡ Fault fault.line fault.code) (IsOutcome Deps bytes) c.fault_written.result
    (g.K.Sink.held c.args.sink.now) (g.K.Sink.held c.fault_written.new.sink)
    (g.K.Sink.faults c.args.sink.now) (g.K.Sink.faults c.fault_written.new.sink)
    (λ f is. subst (IsOutcome Deps bytes) (sym is) (c.in-Ok.ensures bytes spelled Deps))
    c.fault_written.ensures.ends

pub returns-in-Err-clause-ends : goal.returns-in-Err-clause-ends
returns-in-Err-clause-ends g c bytes spelled = ending_memory _ _ _ _ _
