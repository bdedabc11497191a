use Rattle.std.proofs.Common.{◌≡◌, Err, ap, inl, subst, sym}
use Rattle.spy_grammar.specs.declared.code.Code.TheVariants.{TooLong}
use Rattle.findings.specs.declared.finding.Finding.TheVariants.{Fault}
use Rattle.semantics.specs.declared.command.Command.TheVariants.{Deps}
use Rattle.outcomes.specs.Outcome.{HasTextFault, IsOutcome}
use Rattle.spy_cli.proofs.Ending.{part_so, told_so}
use Rattle.spy_cli.proofs.Reports.{told_long}
use Rattle.spy_cli.proofs.listing.deps_answered.Goals as goal

pub returns-in-Ok-clause-told : goal.returns-in-Ok-clause-told
returns-in-Ok-clause-told g c decided bytes left =
    let same = c.in-Ok.ensures.input bytes left in
    told_so (IsOutcome Deps c.in-Ok.bytes.items) (IsOutcome Deps bytes) c.input_listed.result
    (g.K.Sink.held c.args.sink.now) (g.K.Sink.held c.input_listed.new.sink)
    (λ f holds. subst (λ bs. IsOutcome Deps bs f) (sym same) holds) (c.input_listed.ensures.ends.told decided)

pub returns-in-Ok-clause-part : goal.returns-in-Ok-clause-part
returns-in-Ok-clause-part g c fails bytes left =
    let same = c.in-Ok.ensures.input bytes left in
    inl (part_so (IsOutcome Deps c.in-Ok.bytes.items) (IsOutcome Deps bytes)
    (g.K.Sink.held c.args.sink.now) (g.K.Sink.held c.input_listed.new.sink)
    (λ f holds. subst (λ bs. IsOutcome Deps bs f) (sym same) holds) (c.input_listed.ensures.ends.part fails))

pub returns-in-Err-TooLong-clause-told : goal.returns-in-Err-TooLong-clause-told
returns-in-Err-TooLong-clause-told g c decided bytes left =
    let long = told_long bytes (c.in-Err-TooLong.ensures.too_long (ap Err c.in-Err-TooLong.field-0-is) bytes left) in
    told_so (λ f. f ≡ Fault 0 TooLong) (IsOutcome Deps bytes) c.fault_written.result
    (g.K.Sink.held c.args.sink.now) (g.K.Sink.held c.fault_written.new.sink)
    (λ f is. inl (subst (HasTextFault bytes) (sym is) long))
    (c.fault_written.ensures.ends.told decided)

pub returns-in-Err-TooLong-clause-part : goal.returns-in-Err-TooLong-clause-part
returns-in-Err-TooLong-clause-part g c fails bytes left =
    let long = told_long bytes (c.in-Err-TooLong.ensures.too_long (ap Err c.in-Err-TooLong.field-0-is) bytes left) in
    inl (part_so (λ f. f ≡ Fault 0 TooLong) (IsOutcome Deps bytes)
    (g.K.Sink.held c.args.sink.now) (g.K.Sink.held c.fault_written.new.sink)
    (λ f is. inl (subst (HasTextFault bytes) (sym is) long))
    (c.fault_written.ensures.ends.part fails))
