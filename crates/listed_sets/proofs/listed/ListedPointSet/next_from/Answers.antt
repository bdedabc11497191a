use Rattle.listed_sets.proofs.Keeping.{kept_least}
use Rattle.listed_sets.proofs.listed.ListedPointSet.next_from.Goals as goal

pub returns-in-Some : goal.returns-in-Some
returns-in-Some g c =
    rw c.in-Some.is (kept_least c.in-Some.listed.now
    (g.S.PointSet.points c.args.self.now.set.now) c.args.p c.next_common.result c.next_common.ensures)

pub returns-in-None : goal.returns-in-None
returns-in-None g c = rw c.in-None.is c.next_from.ensures
