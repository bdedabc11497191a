use Rattle.std.proofs.Common.{refl, sym, subst}
use Rattle.vocabulary.specs.Prelude.{IsRaceFree, Tables}
use Rattle.verdict.proofs.sorted.Sorted.reads.Goals as goal

pub judged_reads-requires : goal.judged_reads-requires
judged_reads-requires g c =
    let free = subst (λ (t : Tables). IsRaceFree t) (sym c.self.view_is) c.requires in
    λ k. ((refl, tt), (c.self.invariant.0, (c.self.invariant.1, (c.self.invariant.2, free))))
