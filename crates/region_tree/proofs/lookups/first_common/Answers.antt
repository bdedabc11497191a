use Rattle.region_tree.proofs.lookups.first_common.Goals as goal

pub returns-in-Some-Some : goal.returns-in-Some-Some
returns-in-Some-Some g c = rw (c.in-Some-Some.ensures.points, c.in-Some-Some.ensures'.points) c.first_common.ensures
