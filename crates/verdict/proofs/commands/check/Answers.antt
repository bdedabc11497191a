use Rattle.std.proofs.lemmas.Result.{IfOk-weaker}
use Rattle.findings.specs.declared.finding.Finding.{Finding}
use Rattle.semantics.specs.declared.command.Command.TheVariants.{Check}
use Rattle.outcomes.specs.Outcome.{IsFound}
use Rattle.long_values.proofs.lemmas.Checked.{found_same}
use Rattle.long_values.specs.LongOutcome.{IsFoundLong}
use Rattle.verdict.proofs.commands.check.Goals as goal

pub returns-clause-long : goal.returns-clause-long
returns-clause-long c =
    IfOk-weaker c.find.result (IsFound Check c.args.lines c.args.records.now.items) (IsFoundLong c.args.lines c.args.records.now.items)
    (λ (f : Finding) h. (found_same c.args.lines c.args.records.now.items f).0 h)
    c.find.ensures.found
