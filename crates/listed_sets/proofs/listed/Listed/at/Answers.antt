use Rattle.listed_sets.specs.Listed.{listed_of}
use Rattle.listed_sets.proofs.Keeping.{kept_ascends, kept_bounded}
use Rattle.listed_sets.proofs.listed.Listed.at.Goals as goal

pub invariant_of-result-clause-ascends : goal.invariant_of-result-clause-ascends
invariant_of-result-clause-ascends g c = kept_ascends (listed_of c.near_listed-listed.result) (g.S.PointSet.points c.args.set.now)
    (g.met.S.PointSet.ascends c.args.set.now)

pub invariant_of-result-clause-bounded : goal.invariant_of-result-clause-bounded
invariant_of-result-clause-bounded g c = kept_bounded (listed_of c.near_listed-listed.result) (g.S.PointSet.points c.args.set.now)
    (g.met.S.PointSet.bounded c.args.set.now)
