use Rattle.listed_sets.proofs.Near.{kept_alike}
use Rattle.listed_sets.proofs.common.near.Goals as goal

pub returns-clause-same : goal.returns-clause-same
returns-clause-same g c = kept_alike c.up_to.result.now c.args.listed.now (g.P.PointSet.points c.args.set.now)
    (g.met.P.PointSet.ascends c.args.set.now)
    (λ q m n. c.from_on.ensures.listed q (c.up_to.ensures.listed q n))
    (λ q m n. c.up_to.ensures.all q (c.in-Some-last.ensures.1 q m) (c.from_on.ensures.all q (c.in-Some.ensures.1 q m) n))
