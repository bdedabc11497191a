use Rattle.std.proofs.Common.{sym, ◌∙◌}
use Rattle.inst_steps.proofs.Behind.{grid_all, grid_none, grid_empty}
use Rattle.inst_steps.proofs.spot.first_spot.Goals as goal

pub returns-then-is_empty-clause-grid : goal.returns-then-is_empty-clause-grid
returns-then-is_empty-clause-grid g c = grid_empty (g.S.PointSet.points c.args.set) c.args.fields.now (sym c.is_empty.ensures
    ∙ c.if-is_empty.true)

pub returns-in-None-clause-grid : goal.returns-in-None-clause-grid
returns-in-None-clause-grid g c = sym (grid_none (g.S.PointSet.points c.args.set) c.args.fields.now c.in-None.ensures)

pub returns-in-Some-clause-grid : goal.returns-in-Some-clause-grid
returns-in-Some-clause-grid g c =
    sym (grid_all (g.S.PointSet.points c.args.set) c.args.fields.now c.in-Some.point
    (g.met.S.PointSet.ascends c.args.set) c.in-Some.ensures)
