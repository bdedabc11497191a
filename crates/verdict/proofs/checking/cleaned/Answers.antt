use Rattle.std.proofs.Common.{subst}
use Rattle.std.proofs.lemmas.Result.{IfErr-weaker}
use Rattle.vocabulary.specs.Prelude.{Tables}
use Rattle.verdict.specs.Stages.{FindsUnclean, IsStop}
use Rattle.verdict.specs.declared.stop.Stop.{Stop}
use Rattle.verdict.proofs.Stages.{stop_of_race}
use Rattle.verdict.proofs.checking.cleaned.Goals as goal

pub returns-in-Ok-clause-stop : goal.returns-in-Ok-clause-stop
returns-in-Ok-clause-stop g c = IfErr-weaker c.scan.result _ _
    (λ (s : Stop) h. subst (λ (t : Tables). IsStop (FindsUnclean t) s) c.in-Ok.ensures.sorted
    (stop_of_race c.in-Ok.sorted s h)) c.scan.ensures.stop
