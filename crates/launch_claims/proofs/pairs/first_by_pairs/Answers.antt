use Rattle.std.proofs.Common.{ℕ, ◌+◌, Some, take, ap, sym, subst, ◌∙◌}
use Rattle.launch_claims.specs.Interference.{IsLeast}
use Rattle.launch_claims.proofs.Pairing.{AmongPairs, none_among, pairs_all, pairs_found, pairs_passed}
use Rattle.launch_claims.proofs.pairs.first_by_pairs.Goals as goal
use Rattle.launch_claims.proofs.pairs.first_by_pairs.Goals.{then-interferes_with_some, else-interferes_with_some}

pub loop-req-init : goal.loop-req-init
loop-req-init g c = none_among g.P.PointSet.points c.args.launch.now c.args.reqs.now

pub loop-req-preserved : goal.loop-req-preserved
loop-req-preserved g c =
    let points = g.P.PointSet.points in
    let l = c.args.launch.now in
    let reqs = c.args.reqs.now in
    let k = c.loop-req.req-index in
    let so_far = c.loop-req.invariant in
    let within = c.loop-req-test.true in
    elim c.if-interferes_with_some.branch [
      | then-interferes_with_some w ↦ subst (IsLeast (AmongPairs points l (take (k + 1) reqs) reqs))
          (sym (w.first-is ∙ ap (λ (m : ℕ). Some m) w.least_with.ensures))
          (pairs_found points l reqs k c.req-item.result c.loop-req.first c.interferes_with_some.result within c.req-item.is
          c.interferes_with_some.ensures w.if-interferes_with_some.true so_far)
      | else-interferes_with_some w ↦ subst (IsLeast (AmongPairs points l (take (k + 1) reqs) reqs)) (sym w.first-is)
          (pairs_passed points l reqs k c.req-item.result c.loop-req.first c.interferes_with_some.result within c.req-item.is
          c.interferes_with_some.ensures w.if-interferes_with_some.false so_far)
    ]

pub returns : goal.returns
returns g c = pairs_all g.P.PointSet.points c.args.launch.now c.args.reqs.now c.loop-req.req-index c.loop-req.first
    c.loop-req-test.false c.loop-req.invariant
