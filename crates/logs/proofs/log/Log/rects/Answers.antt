use Rattle.std.proofs.Common.{All, subst, sym, ◌≤◌}
use Rattle.log_laws.specs.Drawn.{AreDrawn}
use Rattle.log_laws.proofs.lemmas.Drawn.{drawn}
use Rattle.vocabulary.specs.Prelude.{Rect}
use Rattle.logs.proofs.log.Log.rects.Goals as goal

pub returns-clause-drawn : goal.returns-clause-drawn
returns-clause-drawn g c =
    let declared = c.self.invariant.0 in
    subst AreDrawn c.self.view_is (subst AreDrawn (sym declared.tables) (drawn declared.log declared.good))

pub returns-clause-points : goal.returns-clause-points
returns-clause-points g c =
    let declared = c.self.invariant.0 in
    let all : AreDrawn c.self.inside.tables = subst AreDrawn (sym declared.tables) (drawn declared.log declared.good) in
    subst (All (λ (r : Rect). (r.x0 ≤ r.x1) × (r.y0 ≤ r.y1))) (sym c.rects.ensures) all.some
