use Rattle.std.proofs.Common.{◌≡◌, ◌≤◌, List, Contains, take, subst, arith}
use Rattle.std.proofs.lemmas.List.{take_all}
use Rattle.launch_claims.specs.declared.claim.Claim.{Claim}
use Rattle.launch_claims.proofs.Passing.{blank, highest_more}
use Rattle.launch_claims.proofs.first.highest_record.Goals as goal

pub loop-claim-preserved : goal.loop-claim-preserved
loop-claim-preserved c = λ claim h.
    let le = highest_more c.args.claims.now c.loop-claim.claim-index c.loop-claim.highest blank c.loop-claim-test.true c.loop-claim.invariant claim h in
    let is = c.max-highest.ensures in
    omega arith

pub returns : goal.returns
returns c =
    let claims = c.args.claims.now in
    let all : take c.loop-claim.claim-index claims ≡ claims = grind (arith, take_all) in
    subst (λ (cs : List Claim). (x : Claim) → Contains cs x → x.record ≤ c.loop-claim.highest) all c.loop-claim.invariant
