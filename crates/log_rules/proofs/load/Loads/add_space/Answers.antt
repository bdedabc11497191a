use Rattle.std.proofs.Common.{List, ℕ, sym, subst, ◌∙◌}
use Rattle.std.specs.List.Sorted.{IsStrictlyIncreasing}
use Rattle.semantics.specs.Rules.{points_counted}
use Rattle.log_rules.specs.Loads.{CountsAt, is_held}
use Rattle.log_rules.proofs.Loading.{corners_ascend, corners_told}
use Rattle.log_rules.proofs.load.Loads.add_space.Goals as goal

pub returns-in_ok-add_listed-in-Some-corners : goal.returns-in_ok-add_listed-in-Some-corners
returns-in_ok-add_listed-in-Some-corners g c = λ by.
    let t = c.args.log.now.tables.now in
    let cs = c.args.log.now.corners in
    let corners = c.in-Some-corners.corners in
    let have = g.P.PointSet.points c.in-Some.set.now in
    let points = c.in_ok-points-in-Some-corners.points.items in
    let req = c.args.req.now in
    let told = c.in_ok-points-in-Some-corners.ensures in
    let slice = c.as_slice.ensures.value in
    let up = corners_ascend t cs corners points have c.in-Some-corners.is by (g.met.P.PointSet.ascends c.in-Some.set.now) told in
    let same = slice ∙ corners_told t cs corners req.space points have c.in-Some-corners.is by (sym c.in-Some.ensures) told in
    let old = c.args.self.now in
    let new = c.add_listed.new.self in
    subst (λ (fs : List ℕ). CountsAt old new (is_held req.tree (points_counted t req.space) fs)) c.as_slice-in-Some-corners.ensures
    (subst (λ (ps : List ℕ). CountsAt old new (is_held req.tree ps c.as_slice-in-Some-corners.result.now)) same
    (c.in_ok-add_listed-in-Some-corners.ensures (subst IsStrictlyIncreasing (sym slice) up)))
