use Rattle.std.proofs.Common.{subst}
use Rattle.vocabulary.specs.Prelude.{IsRaceFree, Tables}
use Rattle.verdict.proofs.clean.Clean.is_race_free.Goals as goal

pub returns-clause-free : goal.returns-clause-free
returns-clause-free g c = subst (λ (t : Tables). IsRaceFree t) c.self.view_is c.self.invariant
