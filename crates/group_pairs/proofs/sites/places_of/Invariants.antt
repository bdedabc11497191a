use Rattle.std.proofs.Common.{◌≡◌, map, take}
use Rattle.group_pairs.specs.Sites.{site_place}
use Rattle.group_pairs.proofs.sites.places_of.Given as goal

abbrev pub invariant-loop-claim : goal.invariant-loop-claim
invariant-loop-claim g l = l.places.items ≡ map (site_place l.sites) (take l.claim-index l.claims)
