use Rattle.std.proofs.Common.{◌≡◌, Err, ap, sym, subst}
use Rattle.spy_cli.specs.Answers.{IsAnswer}
use Rattle.spy_cli.specs.declared.report.Report.{Report}
use Rattle.spy_cli.proofs.Reports.{too_long_told}
use Rattle.spy_cli.proofs.answering.report_on.Goals.{in-Ok+in_ok-report-in-Ok, in-Err-TooLong+in_ok-report-in-Err-TooLong}
use Rattle.spy_cli.proofs.answering.report_on.Goals as goal

pub returns-clause-outcome : goal.returns-clause-outcome
returns-clause-outcome g c bytes input = elim c.match-input_of.branch [
  | in-Ok+in_ok-report-in-Ok w ↦
      let r = w.in_ok-report-in-Ok.report in
      let is : ◌≡◌ {A = Report} r c.match-input_of.report = cc w.report-is in
      let said = subst (λ bs. IsAnswer c.args.request bs r.status r.text.items)
      (sym (w.in-Ok.ensures.input bytes input)) w.in_ok-report-in-Ok.ensures in
      subst (λ (r : Report). IsAnswer c.args.request bytes r.status r.text.items) is said
  | in-Err-TooLong+in_ok-report-in-Err-TooLong w ↦
      let r = w.in_ok-report-in-Err-TooLong.report in
      let is : ◌≡◌ {A = Report} r c.match-input_of.report = cc w.report-is in
      let long = w.in-Err-TooLong.ensures.too_long (ap Err w.in-Err-TooLong.field-0-is) bytes input in
      let said = too_long_told c.args.request
      (g.S.Source.left c.args.source.now) bytes r.status r.text.items input long w.in_ok-report-in-Err-TooLong.ensures in
      subst (λ (r : Report). IsAnswer c.args.request bytes r.status r.text.items) is said
]
