use Rattle.std.proofs.Common.{subst}
use Rattle.semantics.specs.declared.command.Command.TheVariants.{Deps}
use Rattle.outcomes.specs.Outcome.{IsFound, IsOutcome}
use Rattle.log_input.specs.Inputs.{IsInput}
use Rattle.spy_cli.proofs.CrowdedFaults.{whole_outcome}
use Rattle.spy_cli.proofs.Ending.{ending_so}
use Rattle.spy_cli.proofs.listing.log_listed.Goals as goal

pub records_listed-requires-clause-good : goal.records_listed-requires-clause-good
records_listed-requires-clause-good g c = (subst (IsInput c.requires.0) c.in-Whole.is c.requires.1).good

pub records_listed-requires-clause-lines : goal.records_listed-requires-clause-lines
records_listed-requires-clause-lines g c = (subst (IsInput c.requires.0) c.in-Whole.is c.requires.1).lines

pub returns-in-Whole-clause-ends : goal.returns-in-Whole-clause-ends
returns-in-Whole-clause-ends g c bytes is =
    let input = c.in-Whole.input in
    let spelled = subst (IsInput bytes) c.in-Whole.is is in
    ending_so (IsFound Deps input.lines input.records.items) (IsOutcome Deps bytes) c.records_listed.result
    (g.K.Sink.held c.args.sink.now) (g.K.Sink.held c.records_listed.new.sink)
    (g.K.Sink.faults c.args.sink.now) (g.K.Sink.faults c.records_listed.new.sink)
    (λ f found. whole_outcome Deps bytes input f spelled found)
    c.records_listed.ensures.ends

pub crowded_listed-requires : goal.crowded_listed-requires
crowded_listed-requires g c = (c.requires.0, subst (IsInput c.requires.0) c.in-Crowded.is c.requires.1)

pub returns-in-Crowded-clause-ends : goal.returns-in-Crowded-clause-ends
returns-in-Crowded-clause-ends g c bytes is = c.crowded_listed.ensures.ends bytes (subst (IsInput bytes) c.in-Crowded.is is)
