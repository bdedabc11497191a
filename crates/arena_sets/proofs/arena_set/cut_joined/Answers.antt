use Rattle.std.proofs.Common.{◌≡◌, ◌+◌, ◌∷◌, ◌++◌, ℕ, List, subst, ap, ◌∙◌, arith}
use Rattle.point_set.specs.Runs.{run_points, points_of}
use Rattle.arena_sets.specs.RunsFrom.{AreRunsFrom}
use Rattle.arena_sets.proofs.Joining.{points_joined, order_joined}
use Rattle.arena_sets.proofs.arena_set.cut_joined.Goals as goal

pub loop-next-preserved : goal.loop-next-preserved
loop-next-preserved c =
    let first = c.in_ok-first.first.now.0 in
    let last = c.loop-next.last in
    let next = c.in-Some.next.now in
    let behind = c.in-Some.behind.now in
    let inv = c.loop-next.invariant in
    let cut = c.in-Some.ensures.cases in
    let touch : next.0 ≡ last + 1 = c.touches.ensures.0 c.if-touches.true in
    let order = λ (low : ℕ) (h : AreRunsFrom low c.args.runs.now). subst (λ (rs : List (ℕ × ℕ)). AreRunsFrom low ((first, last) ∷ rs)) cut.0
    (inv.order low h) in
    let here = order 0 c.requires in
    record {
      points = points_joined (points_of c.args.runs.now) first last next behind here.1 here.2.1 touch (inv.points
          ∙ ap (λ (rs : List (ℕ × ℕ)). run_points (first, last) ++ points_of rs) cut.0);
      order = λ low h. order_joined low first last next behind (order low h);
      shorter = omega (arith, cut.1, inv.shorter);
    }
