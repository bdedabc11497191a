use Rattle.listed_sets.proofs.listed.ListedPointSet.gap_from.Goals as goal

pub returns-in-Some : goal.returns-in-Some
returns-in-Some g c = rw c.in-Some.is c.gap_common.ensures

pub returns-in-None : goal.returns-in-None
returns-in-None g c = rw c.in-None.is c.gap_from.ensures
