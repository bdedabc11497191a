use Rattle.log_rules.specs.Own.{clashes_in}
use Rattle.log_rules.proofs.Claiming.{claims_at-point}
use Rattle.log_rules.proofs.claims.Claims.claim_all.Goals as goal

pub loop-point-preserved : goal.loop-point-preserved
loop-point-preserved c = λ k a.
    let asked = c.args.asked.now in
    claims_at-point (clashes_in c.args.self.now k a) (clashes_in c.loop-point.self k a) (clashes_in c.claim_at_point.new.self k a)
    asked.item asked.tree c.args.points.now asked.fields.now c.loop-point.point-index asked.access k a
    c.loop-point-test.true (c.loop-point.invariant k a) (c.in_ok-claim_at_point.ensures k a)
