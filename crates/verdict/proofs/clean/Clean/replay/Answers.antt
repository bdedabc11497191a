use Rattle.std.proofs.Common.{subst}
use Rattle.long_values.specs.LongOutcome.{CheckFindsLong}
use Rattle.verdict.specs.Narrow.{Passes}
use Rattle.verdict.specs.Stages.{IsStop}
use Rattle.verdict.proofs.clean.Clean.replay.Goals as goal

pub returns-in-Ok-clause-passes : goal.returns-in-Ok-clause-passes
returns-in-Ok-clause-passes g c =
    let sound = c.in-Ok.ensures.sound in
    subst Passes c.self.view_is (record { no_cycle = sound.no_cycle; no_race = sound.no_race; right = c.in-Ok.ensures.right })

pub returns-in-Err-clause-stop_long : goal.returns-in-Err-clause-stop_long
returns-in-Err-clause-stop_long g c =
    subst (λ t. IsStop (CheckFindsLong t) c.in-Err.stop) c.self.view_is c.in-Err.ensures.stop_long
