use Rattle.std.proofs.Common.{sym, ◌∙◌}
use Rattle.launch_claims.proofs.Reaching.{other_field}
use Rattle.launch_claims.proofs.reach.with_next.Goals as goal

pub returns-then-not-share_field : goal.returns-then-not-share_field
returns-then-not-share_field c = λ seen h behind.
    c.first_of_field.ensures seen (other_field seen c.args.reach.now c.args.claim.now (sym c.share_field.ensures
    ∙ c.if-not-share_field.true) h behind) behind
