use Rattle.std.proofs.Common.{◌≡◌, arith, length, subst}
use Rattle.std.proofs.lemmas.Result.{IfOk-weaker}
use Rattle.vocabulary.specs.Prelude.{lined}
use Rattle.semantics.specs.declared.command.Command.TheVariants.{Check}
use Rattle.outcomes.specs.Outcome.{IsFound}
use Rattle.spy_cli.specs.declared.report.Report.{Report}
use Rattle.spy_cli.proofs.checking.checked_report.Goals as goal

pub returns : goal.returns
returns c =
    let rs = c.args.records.items in
    let f = c.in_ok-finding.finding in
    let own = c.in_ok-log.log.ok in
    let count : c.len-lines.result ≡ length rs = omega (arith, c.len-lines.ensures, own, c.in_ok-log.ensures.count) in
    let found = subst (λ n. IsFound Check n (lined rs) f) count
    (subst (λ ls. IsFound Check c.len-lines.result ls f) c.in_ok-log.ensures.log c.in_ok-finding.ensures.found) in
    IfOk-weaker c.report_of.result _ _ (λ (r : Report) tells. record { finding = f; found = found; tells = tells }) c.report_of.ensures
