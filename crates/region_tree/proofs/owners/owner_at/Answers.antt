use Rattle.std.proofs.Common.{ℕ, ◌+◌, Option, Some, take, sym, subst, ◌∙◌}
use Rattle.region_tree.specs.Owners.{IsOwner}
use Rattle.region_tree.proofs.Clashing.{owner_more, owner_still}
use Rattle.region_tree.proofs.owners.owner_at.Goals.{then-claims_at, else-claims_at}
use Rattle.region_tree.proofs.owners.owner_at.Goals as goal

pub loop-claim-preserved : goal.loop-claim-preserved
loop-claim-preserved c =
    let k = c.loop-claim.claim-index in
    let claims = c.args.claims.now in
    let Owner : Option ℕ → Type 0 = IsOwner c.args.asked c.args.limit c.args.point c.args.but (take (k + 1) claims) in
    elim c.if-claims_at.branch [
      | then-claims_at w ↦ subst Owner (sym w.found-is) (subst (λ i. Owner (Some i)) (sym w.least_with.ensures)
          (owner_more c.args.asked c.args.limit c.args.point c.args.but claims k _ c.loop-claim.found c.loop-claim-test.true
          c.loop-claim.invariant (sym c.claims_at.ensures ∙ w.if-claims_at.true)))
      | else-claims_at w ↦ subst Owner (sym w.found-is)
          (owner_still c.args.asked c.args.limit c.args.point c.args.but claims k _ c.loop-claim.found c.loop-claim-test.true
          c.loop-claim.invariant (sym c.claims_at.ensures ∙ w.if-claims_at.false))
    ]
