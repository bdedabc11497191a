use Rattle.std.proofs.Common.{arith}
use Rattle.shared_values.proofs.lemmas.Permuted.{gathers}
use Rattle.shared_values.proofs.suffix.gathered.Goals as goal

pub loop-x-preserved-then-y-x : goal.loop-x-preserved-then-y-x
loop-x-preserved-then-y-x c =
    let earlier = c.in-Some.ensures.earlier in
    let known = c.loop-x.invariant.x_known in
    record {
      x_known = omega (arith, earlier, known);
      y_known = c.loop-x.invariant.y_known;
      first = gathers _ c.args.op c.loop-x.x c.in-Some.step c.loop-x.one.items c.push.new.self.items c.entry_by.result _
          c.in-Some.ensures c.entry_by.ensures c.in_ok-push.ensures.items c.loop-x.invariant.first;
      second = c.loop-x.invariant.second;
    }

pub loop-x-preserved : goal.loop-x-preserved
loop-x-preserved c =
    let earlier = c.in-Some-step_by.ensures.earlier in
    let known = c.loop-x.invariant.y_known in
    record {
      x_known = c.loop-x.invariant.x_known;
      y_known = omega (arith, earlier, known);
      first = c.loop-x.invariant.first;
      second = gathers _ c.args.op c.loop-x.y c.in-Some-step_by.step c.loop-x.other.items c.push-else-y-x.new.self.items
          c.entry_by-else-y-x.result _ c.in-Some-step_by.ensures c.entry_by-else-y-x.ensures c.in_ok-push-2.ensures.items
          c.loop-x.invariant.second;
    }
