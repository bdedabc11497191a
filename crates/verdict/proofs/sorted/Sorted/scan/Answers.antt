use Rattle.std.proofs.Common.{refl, subst}
use Rattle.vocabulary.specs.Prelude.{IsRaceFree, Tables}
use Rattle.verdict.proofs.sorted.Sorted.scan.Goals as goal

pub of-requires : goal.of-requires
of-requires g c = λ k. ((refl, tt), subst (λ (t : Tables). IsRaceFree t) c.self.view_is c.in-Ok.ensures.free)

pub returns-in-Ok-clause-free : goal.returns-in-Ok-clause-free
returns-in-Ok-clause-free g c = subst (λ (t : Tables). IsRaceFree t) c.self.view_is c.in-Ok.ensures.free
