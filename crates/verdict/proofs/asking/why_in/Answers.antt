use Rattle.std.proofs.Common.{subst}
use Rattle.std.proofs.lemmas.Result.{IfOk-weaker}
use Rattle.findings.specs.declared.finding.Finding.{Finding}
use Rattle.semantics.specs.declared.command.Command.TheVariants.{Why}
use Rattle.vocabulary.specs.Prelude.{Tables}
use Rattle.outcomes.specs.Outcome.{WhyFinds}
use Rattle.log_findings.specs.Findings.{IsFoundOf}
use Rattle.log_findings.proofs.lemmas.Ends.{why_found}
use Rattle.verdict.proofs.asking.why_in.Goals as goal

pub returns-in-Ok-clause-found : goal.returns-in-Ok-clause-found
returns-in-Ok-clause-found g c =
    IfOk-weaker c.read_found.result (WhyFinds c.in-Ok.declared c.args.ask.now) (IsFoundOf (Why c.args.ask.now) c.args.log)
    (λ (f : Finding) h. why_found c.args.log c.args.ask.now c.in-Ok.ensures.keeps f
    (subst (λ (t : Tables). WhyFinds t c.args.ask.now f) c.in-Ok.ensures.declared h))
    c.read_found.ensures.found
