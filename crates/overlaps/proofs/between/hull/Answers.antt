use Rattle.std.proofs.Common.{arith}
use Rattle.overlaps.proofs.Lists.{hull_all}
use Rattle.overlaps.proofs.between.hull.Goals as goal

pub returns-clause-all : goal.returns-clause-all
returns-clause-all c =
    let a = c.narrowed-a in
    hull_all c.args.lo c.args.hi a.result (record { lo = c.min.result; hi = c.max.result }) c.args.ours.now a.ensures.all
    (omega (arith, c.min.ensures)) (omega (arith, c.max.ensures))
