use Rattle.std.proofs.Common.{sym}
use Rattle.std.proofs.lemmas.Result.{on_ok_weaker}
use Rattle.findings.proofs.lemmas.CellLaws.{own_last}
use Rattle.findings.proofs.writing.push_report.Goals as goal

pub returns-in_ok-push_listed : goal.returns-in_ok-push_listed
returns-in_ok-push_listed c = on_ok_weaker c.push_own-else-is_headed.result
    (λ is. own_last c.args.f.now _ _ _ (sym c.if-is_headed.ensures) c.in_ok-push_listed.ensures is) c.push_own-else-is_headed.ensures
