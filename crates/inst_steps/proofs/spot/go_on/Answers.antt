use Rattle.std.proofs.Common.{◌∷◌, ap, ◌∙◌, arith}
use Rattle.inst_steps.specs.Stepping.{spot_here}
use Rattle.inst_steps.proofs.Behind.{grid_last, grid_next, grid_over}
use Rattle.inst_steps.proofs.spot.go_on.Goals as goal

pub returns-in_default-clause-grid : goal.returns-in_default-clause-grid
returns-in_default-clause-grid g c =
    let s = c.args.spot.now in
    let points = g.S.PointSet.points s.set in
    grid_last points s.fields.now s.point s.place c.requires.0.1 (omega (arith, c.if-spot.false))
    ∙ ap (λ ps. spot_here s ∷ ps) (grid_over points s.fields.now s.point c.in_default.ensures)

pub returns-clause-grid : goal.returns-clause-grid
returns-clause-grid g c =
    let s = c.args.spot.now in
    let points = g.S.PointSet.points s.set in
    grid_last points s.fields.now s.point s.place c.requires.0.1 (omega (arith, c.if-spot.false))
    ∙ ap (λ ps. spot_here s ∷ ps) (grid_next points s.fields.now s.point c.in-Some.point
    (g.met.S.PointSet.ascends s.set) c.in-Some.ensures)
