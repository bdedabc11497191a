use Rattle.std.proofs.Common.{◌≤◌, sym, ap, ◌∙◌, subst}
use Rattle.atoms.specs.Atoms.{atoms_of, first_points}
use Rattle.point_kinds.specs.declared.first.TheConstants.{MOST_SHARES}
use Rattle.point_kinds.specs.Kinds.{shares}
use Rattle.point_kinds.proofs.first.FirstPoints.of.Goals as goal

pub returns-clause-apart : goal.returns-clause-apart
returns-clause-apart g c few =
    let spaces = c.args.log.now.spaces in
    let is = c.firsts.ensures.firsts ∙ ap first_points (c.in_ok-atoms.ensures.atoms ∙ ap atoms_of c.rects.ensures.rects) in
    c.in_ok-points.ensures.apart (subst (λ points. shares spaces points ≤ MOST_SHARES) (sym is) few)
