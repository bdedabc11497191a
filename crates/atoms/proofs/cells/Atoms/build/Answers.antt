use Rattle.atoms.proofs.Places.{are_atoms_kept, are_firsts_kept}
use Rattle.atoms.proofs.cells.Atoms.build.Goals as goal

pub returns-clause-are : goal.returns-clause-are
returns-clause-are c t is drawn =
    are_atoms_kept _ _ c.args.rects.now c.in_ok-grid.ensures c.in_ok-cells.ensures.cells c.in_ok-cells.ensures.ascend t is drawn

pub returns-clause-firsts : goal.returns-clause-firsts
returns-clause-firsts c t is drawn =
    are_firsts_kept _ _ c.args.rects.now c.in_ok-grid.ensures c.in_ok-cells.ensures.cells t is drawn
