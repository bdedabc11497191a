use Rattle.std.proofs.Common.{[], sym, subst}
use Rattle.std.specs.Option.{option_map_or}
use Rattle.point_set.specs.Least.{IsLeastFrom}
use Rattle.licences.proofs.claim.next_in.Goals as goal

pub returns-in-Some : goal.returns-in-Some
returns-in-Some g c = subst (λ o. IsLeastFrom (option_map_or g.P.PointSet.points o []) c.args.from c.next_from.result)
    (sym c.in-Some.is) c.next_from.ensures
