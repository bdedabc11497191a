use Rattle.std.proofs.Common.{arith}
use Rattle.shared_values.proofs.lemmas.Ways.{way_ends, way_on, way_past}
use Rattle.shared_values.proofs.walk.way_back.Goals as goal

pub returns-in-Start-clause-is : goal.returns-in-Start-clause-is
returns-in-Start-clause-is c = (way_ends _ _ _ _ _ _ c.node_at.ensures c.in-Start.is c.loop-base.invariant.is c.loop-base.invariant.fit).0

pub returns-in-Start-clause-fit : goal.returns-in-Start-clause-fit
returns-in-Start-clause-fit c = (way_ends _ _ _ _ _ _ c.node_at.ensures c.in-Start.is c.loop-base.invariant.is c.loop-base.invariant.fit).1

pub loop-base-smaller : goal.loop-base-smaller
loop-base-smaller c = c.node_at.ensures.result_earlier _ c.in-Folded.is

pub loop-base-preserved-in-More : goal.loop-base-preserved-in-More
loop-base-preserved-in-More c =
    let on = way_on _ _ _ _ _ _ _ c.node_at.ensures c.in-More.is c.loop-base.invariant.is c.loop-base.invariant.fit
    c.in_ok-push-in-More.ensures.items in
    let earlier = on.earlier in
    let known = c.loop-base.invariant.known in
    record { known = omega (arith, earlier, known); is = on.is; fit = on.fit }

pub loop-base-preserved : goal.loop-base-preserved
loop-base-preserved c =
    let past = way_past _ _ _ _ _ _ c.node_at.ensures c.in-Folded.is c.loop-base.invariant.is c.loop-base.invariant.fit in
    let earlier = past.0 in
    let known = c.loop-base.invariant.known in
    record { known = omega (arith, earlier, known); is = past.1.0; fit = past.1.1 }
