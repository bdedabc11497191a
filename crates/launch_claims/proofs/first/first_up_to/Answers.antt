use Rattle.std.proofs.Common.{◌≡◌, ◌+◌, ℕ, subst, arith}
use Rattle.launch_claims.specs.Claims.{HasClash, asked_below}
use Rattle.launch_claims.proofs.Passing.{none_below_zero}
use Rattle.launch_claims.proofs.first.first_up_to.Goals as goal

pub loop-low-init : goal.loop-low-init
loop-low-init c = record {
  order = omega arith;
  clash = c.has_clash_up_to.ensures.0 c.if-not-has_clash_up_to.false;
  none = none_below_zero c.args.claims.now;
}

pub returns : goal.returns
returns c =
    let inv = c.loop-low.invariant in
    let end : c.loop-low.high ≡ c.loop-low.low = omega (arith, inv.order, c.loop-low-test.false) in
    (subst (λ (n : ℕ). HasClash (asked_below (n + 1) c.args.claims.now)) end inv.clash, inv.none)
