use Rattle.std.proofs.Common.{◌+◌, ap}
use Rattle.plane_gaps.proofs.Free.{next_passed, all_free}
use Rattle.plane_gaps.proofs.gaps.gaps_of.Goals as goal

pub loop-rect-preserved : goal.loop-rect-preserved
loop-rect-preserved c =
    let e = c.loop-rect.edge in
    next_passed c.args.rects.now c.loop-rect.gaps.items c.push_before.new.gaps.items e
    (record { x0 = c.from.result; x1 = c.from-in-loop-rect.result + 1; y = c.from-in-loop-rect-2.result + 1 }) c.loop-rect.rect-index
    c.requires c.loop-rect.invariant c.loop-rect-test.true c.in_ok-push_before.ensures
    (λ i. record {
      x0 = c.from.ensures i;
      x1 = ap (λ n. n + 1) c.from-in-loop-rect.ensures i;
      y =
          ap (λ n. n + 1) c.from-in-loop-rect-2.ensures i;
    })

pub returns : goal.returns
returns c = all_free c.args.rects.now c.loop-rect.gaps.items c.push_rest.new.gaps.items c.loop-rect.edge c.loop-rect.rect-index c.loop-rect.invariant c.loop-rect-test.false c.in_ok-push_rest.ensures
