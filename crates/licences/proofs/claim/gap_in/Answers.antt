use Rattle.std.proofs.Common.{[], sym, subst}
use Rattle.std.specs.Option.{option_map_or}
use Rattle.point_set.specs.Least.{IsLeastGap}
use Rattle.licences.proofs.claim.gap_in.Goals as goal

pub returns-in-Some : goal.returns-in-Some
returns-in-Some g c = subst (λ o. IsLeastGap (option_map_or g.P.PointSet.points o []) c.args.from c.gap_from.result)
    (sym c.in-Some.is) c.gap_from.ensures
