use Rattle.std.proofs.Common.{refl, sym, subst}
use Rattle.vocabulary.specs.Prelude.{IsRaceFree, Tables}
use Rattle.log_findings.proofs.lemmas.Ends.{mapped_of}
use Rattle.verdict.proofs.sorted.Sorted.read_finding.Goals as goal

pub read_finding-requires : goal.read_finding-requires
read_finding-requires g c =
    let t = c.self.inside.log in
    let free = subst (λ (t : Tables). IsRaceFree t) (sym c.self.view_is) c.requires in
    λ k. ((refl, tt), (mapped_of t c.self.invariant.0, (c.self.invariant.1.order, free)))
