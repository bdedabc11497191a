use Rattle.std.proofs.Common.{[], sym, subst}
use Rattle.std.specs.Option.{option_map_or}
use Rattle.point_set.specs.Least.{IsLeastOutside}
use Rattle.licences.proofs.Meeting.{outside_none}
use Rattle.licences.proofs.claim.outside_in.Goals as goal

pub returns-in-Some-theirs : goal.returns-in-Some-theirs
returns-in-Some-theirs g c =
    subst (λ o. IsLeastOutside (option_map_or g.P.PointSet.points o []) (option_map_or g.P.PointSet.points c.args.theirs.now []) c.outside.result) (sym c.in-Some.is)
    (subst (λ o. IsLeastOutside (g.P.PointSet.points c.in-Some.ours) (option_map_or g.P.PointSet.points o []) c.outside.result) (sym c.in-Some-theirs.is)
    c.outside.ensures)

pub returns-in-None : goal.returns-in-None
returns-in-None g c =
    subst (λ o. IsLeastOutside (option_map_or g.P.PointSet.points o []) (option_map_or g.P.PointSet.points c.args.theirs.now []) c.first.result) (sym c.in-Some.is)
    (subst (λ o. IsLeastOutside (g.P.PointSet.points c.in-Some.ours) (option_map_or g.P.PointSet.points o []) c.first.result) (sym c.in-None.is)
    (outside_none (g.P.PointSet.points c.in-Some.ours) c.first.result c.first.ensures))
