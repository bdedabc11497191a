use Rattle.std.proofs.Common.{subst}
use Rattle.serial_exec.specs.Kept.{AreVersionsAt}
use Rattle.worked_calls.proofs.replay_tests.versions_on.Goals as goal

pub returns : goal.returns
returns g c = subst (λ ps. AreVersionsAt ps c.args.log.now c.in_ok-versions.versions) c.as_slice-points.ensures.points c.in_ok-versions.ensures.listed
