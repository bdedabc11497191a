use Rattle.std.proofs.Common.{refl, get_or}
use Rattle.log_rules.specs.Own.{clashes_in}
use Rattle.log_rules.proofs.Claiming.{claims_at-field}
use Rattle.log_rules.proofs.claims.Claims.claim_at_point.Goals as goal

pub loop-field-preserved : goal.loop-field-preserved
loop-field-preserved c = λ k a.
    let asked = c.args.asked.now in
    let field = get_or asked.fields.now c.loop-field.field-index 0 in
    claims_at-field (clashes_in c.args.self.now k a) (clashes_in c.loop-field.self k a) (clashes_in c.claim.new.self k a)
    asked.item asked.tree c.args.point field asked.fields.now c.loop-field.field-index asked.access k a
    c.loop-field-test.true refl (c.loop-field.invariant k a) (c.in_ok-claim.ensures k a)
