use Rattle.std.specs.Prelude.{◌↔◌}
use Rattle.std.proofs.Common.{◌≡◌, List, Contains, sym, subst}
use Rattle.vocabulary.specs.Prelude.{Link}
use Rattle.semantics.specs.declared.links.LinkKind.TheVariants as kinds
use Rattle.read_findings.proofs.links.read_finding.Goals as goal

pub links_found-requires-clause-starts : goal.links_found-requires-clause-starts
links_found-requires-clause-starts g c = subst (λ (ls : List Link). (l : Link) → Contains ls l → (l.done ≡ 0) ↔ (l.kind ≡ kinds.Start))
    (sym c.deref.ensures.value) c.in-Ok.ensures.starts
