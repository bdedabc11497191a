use Rattle.std.proofs.Common.{refl, inr}
use Rattle.spy_cli.proofs.printing.printed_report.Goals as goal

pub returns-in-Ok : goal.returns-in-Ok
returns-in-Ok c =
    let told = c.in-Ok.ensures.text in
    inr (
      refl,
      record {
        spelled = told.spelled.clean;
        log = told.log;
        reads = told.spelled.reads;
        text_is = told.text_is;
      },
    )
