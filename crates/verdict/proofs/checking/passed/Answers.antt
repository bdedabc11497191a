use Rattle.std.proofs.Common.{subst}
use Rattle.std.proofs.lemmas.Result.{IfErr-weaker}
use Rattle.outcomes.specs.Outcome.{CheckFinds}
use Rattle.vocabulary.specs.Prelude.{Tables}
use Rattle.verdict.specs.Stages.{IsStop}
use Rattle.verdict.specs.declared.stop.Stop.{Stop}
use Rattle.verdict.proofs.Stages.{stop_of_difference}
use Rattle.verdict.proofs.checking.passed.Goals as goal

pub returns-in-Ok-clause-stop : goal.returns-in-Ok-clause-stop
returns-in-Ok-clause-stop g c =
    IfErr-weaker c.replay.result _ _ (λ (s : Stop) h. subst (λ (t : Tables). IsStop (CheckFinds t) s) c.in-Ok.ensures.clean
    (stop_of_difference c.in-Ok.clean s h)) c.replay.ensures.stop
