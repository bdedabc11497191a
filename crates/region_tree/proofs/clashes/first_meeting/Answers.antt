use Rattle.std.proofs.Common.{List, length, ap, subst, sym}
use Rattle.region_tree.specs.declared.claims.Asked.TheVariants.{Apart}
use Rattle.region_tree.specs.declared.claims.Claim.{Claim}
use Rattle.region_tree.specs.Claims.{AreReady, HaveOneWhole, IsFirstFailing}
use Rattle.region_tree.proofs.Claiming.{claims_ready}
use Rattle.region_tree.proofs.Clashing.{search_none, search_fails, search_some}
use Rattle.region_tree.proofs.clashes.first_meeting.Goals as goal

pub first_failing-requires-clause-ready : goal.first_failing-requires-clause-ready
first_failing-requires-clause-ready g c =
    let d = c.args.decls.now in
    let all = claims_ready d (Apart 0) (length d.subs) c.in_ok-claims.claims.items c.sort.new.claims.items c.sort.ensures.claims
    c.sort.ensures.order c.in_ok-claims.ensures in
    subst AreReady (sym c.as_slice-claims.ensures.value) all.1

pub first_failing-requires-clause-wholes : goal.first_failing-requires-clause-wholes
first_failing-requires-clause-wholes g c =
    let d = c.args.decls.now in
    let all = claims_ready d (Apart 0) (length d.subs) c.in_ok-claims.claims.items c.sort.new.claims.items c.sort.ensures.claims
    c.sort.ensures.order c.in_ok-claims.ensures in
    subst (HaveOneWhole d) (sym c.as_slice-claims.ensures.value) all.2

pub first_failing-requires-2-clause-ready : goal.first_failing-requires-2-clause-ready
first_failing-requires-2-clause-ready g c =
    let d = c.args.decls.now in
    let all = claims_ready d (Apart 0) (length d.subs) c.in_ok-claims.claims.items c.sort.new.claims.items c.sort.ensures.claims
    c.sort.ensures.order c.in_ok-claims.ensures in
    subst AreReady (sym c.as_slice-claims.ensures.value) all.1

pub first_failing-requires-2-clause-wholes : goal.first_failing-requires-2-clause-wholes
first_failing-requires-2-clause-wholes g c =
    let d = c.args.decls.now in
    let all = claims_ready d (Apart 0) (length d.subs) c.in_ok-claims.claims.items c.sort.new.claims.items c.sort.ensures.claims
    c.sort.ensures.order c.in_ok-claims.ensures in
    subst (HaveOneWhole d) (sym c.as_slice-claims.ensures.value) all.2

pub returns-in_default : goal.returns-in_default
returns-in_default g c =
    let d = c.args.decls.now in
    let claims = c.sort.new.claims.items in
    let all = claims_ready d (Apart 0) (length d.subs) c.in_ok-claims.claims.items claims c.sort.ensures.claims
    c.sort.ensures.order c.in_ok-claims.ensures in
    let n = length c.subs.result.now in
    search_none d claims n c.in_ok-sub.field-0 all.0 (ap length c.subs.ensures)
    (subst (λ (cs : List Claim). IsFirstFailing d cs (Apart 0) n c.in_ok-sub.field-0) c.as_slice-claims.ensures.value
    c.in_ok-sub.ensures) c.in_default.not-Some

pub unreachable-requires : goal.unreachable-requires
unreachable-requires g c =
    let d = c.args.decls.now in
    let claims = c.sort.new.claims.items in
    let all = claims_ready d (Apart 0) (length d.subs) c.in_ok-claims.claims.items claims c.sort.ensures.claims
    c.sort.ensures.order c.in_ok-claims.ensures in
    let n = length c.subs.result.now in
    let i = c.in-Some.sub in
    search_fails d claims n i c.in_ok-sub.field-0 c.in_ok-other.field-0 all.0 c.in-Some.is
    (subst (λ (cs : List Claim). IsFirstFailing d cs (Apart 0) n c.in_ok-sub.field-0) c.as_slice-claims.ensures.value
    c.in_ok-sub.ensures) c.in-None.is
    (subst (λ (cs : List Claim). IsFirstFailing d cs (Apart i) i c.in_ok-other.field-0) c.as_slice-claims.ensures.value
    c.in_ok-other.ensures)

pub returns : goal.returns
returns g c =
    let d = c.args.decls.now in
    let claims = c.sort.new.claims.items in
    let all = claims_ready d (Apart 0) (length d.subs) c.in_ok-claims.claims.items claims c.sort.ensures.claims
    c.sort.ensures.order c.in_ok-claims.ensures in
    let n = length c.subs.result.now in
    let i = c.in-Some.sub in
    let j = c.in-Some-2.other in
    search_some d claims n i j c.in_ok-sub.field-0 c.in_ok-other.field-0 all.0 c.in-Some.is
    (subst (λ (cs : List Claim). IsFirstFailing d cs (Apart 0) n c.in_ok-sub.field-0) c.as_slice-claims.ensures.value
    c.in_ok-sub.ensures) c.in-Some-2.is
    (subst (λ (cs : List Claim). IsFirstFailing d cs (Apart i) i c.in_ok-other.field-0) c.as_slice-claims.ensures.value
    c.in_ok-other.ensures)
