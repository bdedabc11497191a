use Rattle.std.proofs.Common.{subst}
use Rattle.std.proofs.lemmas.Result.{IfOk-weaker}
use Rattle.serial_exec.specs.Kept.{AreVersionsOf}
use Rattle.serial_exec.proofs.Keeping.{versions_at}
use Rattle.serial_exec.proofs.versions.Versions.build_on.Goals as goal

pub returns-clause-listed : goal.returns-clause-listed
returns-clause-listed g c = IfOk-weaker c.of.result _ _
    (λ v h. versions_at c.args.points.now c.args.log.now v (subst (λ t. AreVersionsOf t v) c.at-log.ensures h)) c.of.ensures
