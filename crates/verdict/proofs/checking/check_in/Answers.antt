use Rattle.std.proofs.Common.{IfSome, refl, sym, ◌∙◌, subst}
use Rattle.std.proofs.lemmas.Result.{IfOk-weaker}
use Rattle.findings.specs.declared.finding.Finding.{Finding}
use Rattle.semantics.specs.declared.command.Command.TheVariants.{Check}
use Rattle.vocabulary.specs.Prelude.{Tables}
use Rattle.outcomes.specs.Outcome.{CheckFinds}
use Rattle.verdict.specs.Narrow.{IsNarrow}
use Rattle.log_findings.specs.Findings.{IsFoundOf}
use Rattle.log_findings.proofs.lemmas.Ends.{check_found}
use Rattle.verdict.proofs.checking.check_in.Goals as goal

pub returns-in-Ok-clause-found : goal.returns-in-Ok-clause-found
returns-in-Ok-clause-found g c =
    IfOk-weaker c.run_found.result (CheckFinds c.in-Ok.declared) (IsFoundOf Check c.args.log)
    (λ (f : Finding) h. check_found c.args.log c.in-Ok.ensures.keeps f (subst (λ (t : Tables). CheckFinds t f) c.in-Ok.ensures.declared h))
    c.run_found.ensures.found

pub run_found-requires : goal.run_found-requires
run_found-requires g c κs =
    let is = c.in-Ok.ensures.declared ∙ c.requires.tables in
    ((refl, tt), subst (λ (t : Tables). IfSome c.narrowed.result (IsNarrow t)) (sym is) c.narrowed.ensures)
