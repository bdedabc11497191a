use Rattle.std.proofs.Common.{ℕ, ◌==◌, ◌∙◌, ap}
use Rattle.std.specs.List.{position_from}
use Rattle.group_pairs.specs.declared.sites.Site.{Site}
use Rattle.group_pairs.specs.Sites.{site_place}
use Rattle.group_pairs.proofs.Pairing.{map_grows}
use Rattle.group_pairs.proofs.sites.places_of.Goals as goal

pub loop-claim-preserved : goal.loop-claim-preserved
loop-claim-preserved g c =
    map_grows (site_place c.args.sites.now) c.args.claims.now c.loop-claim.claim-index c.claim-item.result c.place.result c.loop-claim.places.items c.push.new.self.items c.loop-claim-test.true c.claim-item.is c.loop-claim.invariant c.in_ok-push.ensures.items
    (c.place.ensures ∙ ap (λ (space : ℕ). position_from (λ (s : Site). s.space == space) 0 c.args.sites.now) c.space.ensures)
