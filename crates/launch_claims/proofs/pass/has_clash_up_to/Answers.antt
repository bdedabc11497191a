use Rattle.std.proofs.Common.{◌+◌, get_or, take, refl, sym, subst, arith}
use Rattle.std.proofs.lemmas.Bool.{both_ways}
use Rattle.launch_claims.specs.Claims.{HasClash, asked_below}
use Rattle.launch_claims.specs.Reaches.{Measures, MeasuresSoFar}
use Rattle.launch_claims.proofs.Passing.{blank, seen_more, seen_same, seen_behind, none_more, clash_found}
use Rattle.launch_claims.proofs.pass.has_clash_up_to.Goals as goal
use Rattle.launch_claims.proofs.pass.has_clash_up_to.Goals.{then-claim-number+else-clashes_so_far, else-claim-number}

pub loop-claim-preserved : goal.loop-claim-preserved
loop-claim-preserved c =
    let claims = c.args.claims.now in
    let k = c.loop-claim.claim-index in
    let n = c.args.number + 1 in
    let here = get_or claims k blank in
    let seen = asked_below n (take k claims) in
    let inv = c.loop-claim.invariant in
    let within = c.loop-claim-test.true in
    let behind = seen_behind n claims k blank c.requires within in
    elim c.if-claim-number.branch [
      | then-claim-number+else-clashes_so_far w ↦
          let more = sym (seen_more n claims k blank within (omega (arith, w.if-claim-number.true))) in
          let told = w.clashes_so_far.ensures seen inv.reach behind inv.none in
          record {
            reach = subst (λ o. MeasuresSoFar o (asked_below n (take (k + 1) claims))) (sym w.reach-is)
                (subst (Measures w.reach_with.result) more (w.reach_with.ensures seen inv.reach behind));
            none = subst (λ s. ¬ HasClash s) more (none_more seen here inv.none
                (λ some. both_ways w.clashes_so_far.result w.if-clashes_so_far.false (told.1 some)));
          }
      | else-claim-number w ↦
          let same = sym (seen_same n claims k blank within (omega (arith, w.if-claim-number.false))) in
          record {
            reach = subst (λ o. MeasuresSoFar o (asked_below n (take (k + 1) claims))) (sym w.reach-is)
                (subst (MeasuresSoFar c.loop-claim.reach) same inv.reach);
            none = subst (λ s. ¬ HasClash s) same inv.none;
          }
    ]

pub returns-then-clashes_so_far : goal.returns-then-clashes_so_far
returns-then-clashes_so_far c =
    let claims = c.args.claims.now in
    let k = c.loop-claim.claim-index in
    let n = c.args.number + 1 in
    let inv = c.loop-claim.invariant in
    let within = c.loop-claim-test.true in
    let behind = seen_behind n claims k blank c.requires within in
    let told = c.clashes_so_far.ensures (asked_below n (take k claims)) inv.reach behind inv.none in
    (λ _. clash_found n claims k blank within (omega (arith, c.if-claim-number.true)) (told.0 c.if-clashes_so_far.true), λ _. refl)
