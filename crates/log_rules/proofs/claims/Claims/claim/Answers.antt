use Rattle.std.proofs.Common.{◌≡◌, ◌||◌, not, Some, ap, ◌∙◌}
use Rattle.std.specs.HashMap.{get}
use Rattle.vocabulary.specs.Prelude.{agree}
use Rattle.log_rules.specs.Own.{same_place, clashes}
use Rattle.log_rules.proofs.Claiming.{clashes-put}
use Rattle.log_rules.proofs.claims.Claims.claim.Goals as goal

pub returns : goal.returns
returns c = λ k a.
    let old = get same_place c.args.self.now.places in
    let access = c.args.access in
    let joins : clashes (Some c.joined-claim.result) a ≡ (clashes (old c.args.place) a || not (agree access a)) =
    c.joined-claim.ensures a ∙ ap (λ o. clashes o a || not (agree access a)) (c.copied-kept.ensures ∙ c.get.ensures.value)
    in
    clashes-put old c.args.place k c.joined-claim.result (get same_place c.insert.new.self k) access a
    (c.in_ok-insert.ensures.updates.0 k) joins
