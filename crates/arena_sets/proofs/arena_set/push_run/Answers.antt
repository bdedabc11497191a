use Rattle.std.proofs.Common.{◌≡◌, ◌+◌, ◌-◌, refl, arith}
use Rattle.arena_sets.proofs.RunPoints.{one_more, end_is}
use Rattle.arena_sets.proofs.arena_set.push_run.Goals as goal

pub loop-p-preserved : goal.loop-p-preserved
loop-p-preserved c = (
  one_more c.args.points.now.items c.loop-p.points.items _ c.args.first c.loop-p.p _ c.loop-p.invariant.0 c.in_ok-push.ensures.items c.loop-p.auto.p refl,
  λ lt. omega arith,
)

pub returns : goal.returns
returns c =
    let e : c.loop-p.p - c.args.first ≡ c.args.last + 1 - c.args.first =
    end_is c.args.first c.args.last c.loop-p.p c.loop-p-test.false c.loop-p.auto.p c.loop-p.invariant.1 (λ h. let g =
    c.loop-p.auto.p-end h in omega arith) in
    rw e at c.loop-p.invariant.0

pub returns-in_ok-push : goal.returns-in_ok-push
returns-in_ok-push c =
    one_more c.args.points.now.items c.loop-p.points.items _ c.args.first c.loop-p.p _ c.loop-p.invariant.0 c.in_ok-push.ensures.items c.loop-p.auto.p (omega arith)
