use Rattle.std.proofs.Common.{[], Contains, subst}
use Rattle.std.specs.Option.{option_map_or}
use Rattle.item_uses.proofs.usage.ends_of.Goals as goal

pub returns-in-Some : goal.returns-in-Some
returns-in-Some g c x m =
    let here = subst (λ o. Contains (option_map_or g.P.PointSet.points o []) x) c.in-Some.is m in
    (c.first_of.ensures x here, c.last_of.ensures x here)
