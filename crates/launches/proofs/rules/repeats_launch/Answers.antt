use Rattle.std.proofs.Common.{ap, sym, ◌∙◌}
use Rattle.semantics.specs.Launches.{repeats_launch}
use Rattle.launches.specs.Steps.{expanded_as}
use Rattle.launches.proofs.rules.repeats_launch.Goals as goal

pub returns-in-Launch : goal.returns-in-Launch
returns-in-Launch c = λ written. c.has_launch.ensures written
    ∙ ap (repeats_launch (expanded_as c.args.launches.now written)) (sym c.in-Launch.is)
