use Rattle.std.proofs.Common.{List, length, ap, subst, sym}
use Rattle.region_tree.specs.declared.claims.Asked.TheVariants.{Within}
use Rattle.region_tree.specs.declared.claims.Claim.{Claim}
use Rattle.region_tree.specs.Claims.{AreReady, HaveOneWhole, IsFirstFailing}
use Rattle.std.proofs.lemmas.Result.{IfOk-weaker}
use Rattle.region_tree.specs.Wholes.{IsFirstOutside}
use Rattle.region_tree.proofs.Claiming.{claims_ready}
use Rattle.region_tree.proofs.Clashing.{outside_told}
use Rattle.region_tree.proofs.clashes.first_outside.Goals as goal

pub first_failing-requires-clause-ready : goal.first_failing-requires-clause-ready
first_failing-requires-clause-ready g c =
    let d = c.args.decls.now in
    let all = claims_ready d Within (length d.subs) c.in_ok-claims.claims.items c.sort.new.claims.items c.sort.ensures.claims
    c.sort.ensures.order c.in_ok-claims.ensures in
    subst AreReady (sym c.as_slice.ensures.value) all.1

pub first_failing-requires-clause-wholes : goal.first_failing-requires-clause-wholes
first_failing-requires-clause-wholes g c =
    let d = c.args.decls.now in
    let all = claims_ready d Within (length d.subs) c.in_ok-claims.claims.items c.sort.new.claims.items c.sort.ensures.claims
    c.sort.ensures.order c.in_ok-claims.ensures in
    subst (HaveOneWhole d) (sym c.as_slice.ensures.value) all.2

pub returns : goal.returns
returns g c =
    let d = c.args.decls.now in
    let claims = c.sort.new.claims.items in
    let all = claims_ready d Within (length d.subs) c.in_ok-claims.claims.items claims c.sort.ensures.claims
    c.sort.ensures.order c.in_ok-claims.ensures in
    let n = length c.subs.result.now in
    IfOk-weaker c.first_failing.result (IsFirstFailing d c.as_slice.result.now Within n) (IsFirstOutside d) (λ o first.
    outside_told d claims n o all.0 (ap length c.subs.ensures)
    (subst (λ (cs : List Claim). IsFirstFailing d cs Within n o) c.as_slice.ensures.value first)) c.first_failing.ensures
