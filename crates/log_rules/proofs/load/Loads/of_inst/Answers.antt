use Rattle.std.proofs.Common.{List, ℕ, sym, subst, ap, ◌∙◌}
use Rattle.std.specs.List.Sorted.{IsStrictlyIncreasing}
use Rattle.log_limits.specs.Sums.{cut}
use Rattle.semantics.specs.Rules.{points_counted}
use Rattle.log_rules.specs.Loads.{grid_load, load_in}
use Rattle.log_rules.proofs.Loading.{corners_ascend, corners_told}
use Rattle.log_rules.proofs.load.Loads.of_inst.Goals as goal

pub returns-in_ok-points-in-Some-corners : goal.returns-in_ok-points-in-Some-corners
returns-in_ok-points-in-Some-corners g c = λ by.
    let t = c.args.log.now.tables.now in
    let cs = c.args.log.now.corners in
    let corners = c.in-Some-corners.corners in
    let inst = c.args.inst.now in
    let have = g.P.PointSet.points c.in-Some.set.now in
    let points = c.in_ok-points-in-Some-corners.points.items in
    let told = c.in_ok-points-in-Some-corners.ensures in
    let slice = c.as_slice.ensures.value in
    let up = corners_ascend t cs corners points have c.in-Some-corners.is by (g.met.P.PointSet.ascends c.in-Some.set.now) told in
    let same = slice ∙ corners_told t cs corners inst.space points have c.in-Some-corners.is by (sym c.in-Some.ensures) told in
    let count = load_in c.args.self.now in
    c.at_listed.ensures (subst IsStrictlyIncreasing (sym slice) up)
    ∙ ap (λ (ps : List ℕ). cut (grid_load count inst.tree c.as_slice-in-Some-corners.result.now ps)) same
    ∙ ap (λ (fs : List ℕ). cut (grid_load count inst.tree fs (points_counted t inst.space))) c.as_slice-in-Some-corners.ensures
