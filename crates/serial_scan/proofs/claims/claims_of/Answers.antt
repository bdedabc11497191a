use Rattle.serial_scan.proofs.Claiming.{all_claims, claim_still, kept_moved}
use Rattle.serial_scan.proofs.claims.claims_of.Goals as goal

pub returns-clause-all : goal.returns-clause-all
returns-clause-all g c =
    let t = c.args.log.now in
    let moved = kept_moved c.push_fills.new.claims.items c.sort.new.claims.items c.sort.ensures.claims in
    all_claims t c.sort.new.claims.items
    (λ r m lt. claim_still t c.push_fills.new.claims.items c.sort.new.claims.items r.item r moved
    (claim_still t c.push_reqs.new.claims.items c.push_fills.new.claims.items r.item r c.in_ok-push_fills.ensures.kept
    (c.in_ok-push_reqs.ensures.added r m lt)))
    (λ item lt other r m. claim_still t c.push_fills.new.claims.items c.sort.new.claims.items item r moved
    (c.in_ok-push_fills.ensures.added item lt other r m))
