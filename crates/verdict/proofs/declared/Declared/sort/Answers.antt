use Rattle.std.proofs.Common.{subst}
use Rattle.vocabulary.specs.Prelude.{HasNoCycle, Tables}
use Rattle.verdict.proofs.declared.Declared.sort.Goals as goal

pub returns-in-Ok-clause-no_cycle : goal.returns-in-Ok-clause-no_cycle
returns-in-Ok-clause-no_cycle g c = subst (λ (t : Tables). HasNoCycle t) c.self.view_is c.in-Ok.ensures.sorted.order.free
