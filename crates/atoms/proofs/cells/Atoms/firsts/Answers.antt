use Rattle.std.proofs.Common.{ap, ◌∙◌}
use Rattle.atoms.specs.Atoms.{first_points}
use Rattle.atoms.proofs.Places.{firsts_kept}
use Rattle.atoms.proofs.cells.Atoms.firsts.Goals as goal

pub returns-clause-firsts : goal.returns-clause-firsts
returns-clause-firsts c =
    let s = c.self.inside in
    c.as_slice.ensures.value ∙ firsts_kept s.grid s.cells.items s.firsts.items c.self.invariant ∙ ap first_points c.self.view_is
