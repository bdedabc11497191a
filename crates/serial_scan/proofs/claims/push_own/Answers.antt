use Rattle.serial_scan.proofs.Claiming.{claim_more}
use Rattle.serial_scan.proofs.claims.push_own.Goals as goal

pub returns-in_ok-push-clause-added : goal.returns-in_ok-push-clause-added
returns-in_ok-push-clause-added g c = λ other r m.
    claim_more c.args.log.now c.args.claims.now.items c.push.new.self.items c.in-Some.claim c.args.item r c.in_ok-push.ensures.items
    (c.in-Some.ensures.some r m)
