use Rattle.std.proofs.Common.{◌<◌, ◌≤◌, ℕ, ◌||◌, List, ap, sym, ◌∙◌, arith}
use Rattle.std.proofs.Math.Bool.{or-false}
use Rattle.vocabulary.specs.Prelude.{points_in, place_of, reqs_before}
use Rattle.log_rules.specs.declared.claims.TheConstants.{FEW}
use Rattle.log_rules.specs.Lookups.{before_named, item_named}
use Rattle.log_rules.specs.Own.{claimed, claims_at, clashes_in}
use Rattle.log_rules.proofs.Claiming.{claims_at-claim_points, few_claim_nothing, later_claims_all}
use Rattle.log_rules.proofs.tally.note_claims.Goals as goal

pub returns-then-named-lt-FEW : goal.returns-then-named-lt-FEW
returns-then-named-lt-FEW g c = λ all grid low k a begins.
    let named = c.args.named.now in
    let t = named.tables.now in
    let req = c.in-Req in
    let count = named.is_before ∙ ap (before_named t) req.is in
    let few : reqs_before t.reqs (place_of t.items req.task) < FEW = omega (arith, count, c.if-named-lt-FEW.true) in
    sym (or-false (clashes_in c.args.claims.now k a))
    ∙ ap (λ b. clashes_in c.args.claims.now k a || b)
    (sym (few_claim_nothing t req.task req.tree req.space req.fields req.access req.atomic few k a)
    ∙ ap (λ r. claimed t r k a) (sym req.is))

pub returns-in_ok-claim_all-in-Req : goal.returns-in_ok-claim_all-in-Req
returns-in_ok-claim_all-in-Req g c = λ all grid low k a begins.
    let named = c.args.named.now in
    let t = named.tables.now in
    let req = c.in-Req in
    let count = named.is_before ∙ ap (before_named t) req.is in
    let many : FEW ≤ reqs_before t.reqs (place_of t.items req.task) = omega (arith, count, c.if-named-lt-FEW.false) in
    let points = points_in t req.space in
    let told = c.as_slice.ensures.value ∙ c.in_ok-points-in-Req.ensures all grid in
    c.in_ok-claim_all-in-Req.ensures k a
    ∙ ap (λ b. clashes_in c.args.claims.now k a || b)
    (ap (λ (ps : List ℕ). claims_at named.item req.tree ps c.as_slice-in-Req.result.now c.priv_of.result k a) told
    ∙ claims_at-claim_points all named.item req.tree points c.as_slice-in-Req.result.now c.priv_of.result k a begins
    ∙ ap (λ (fs : List ℕ). claims_at named.item req.tree points fs c.priv_of.result k a) c.as_slice-in-Req.ensures
    ∙ ap (λ (item : ℕ). claims_at item req.tree points req.fields c.priv_of.result k a) (named.is_item ∙ ap (item_named t) req.is)
    ∙ ap (λ p. claims_at (place_of t.items req.task) req.tree points req.fields p k a) c.priv_of.ensures
    ∙ sym (later_claims_all t req.task req.tree req.space req.fields req.access req.atomic many k a)
    ∙ ap (λ r. claimed t r k a) (sym req.is))
