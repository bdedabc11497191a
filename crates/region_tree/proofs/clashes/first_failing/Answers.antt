use Rattle.std.proofs.Common.{◌+◌, subst, arith, ◌≡◌}
use Rattle.region_tree.specs.Claims.{NoneFails}
use Rattle.region_tree.proofs.Clashing.{none_at_first, failing_none, failing_some, told_behind}
use Rattle.region_tree.proofs.clashes.first_failing.Goals as goal

pub returns-in_default : goal.returns-in_default
returns-in_default g c =
    failing_none c.args.decls.now c.args.asked c.args.count c.args.claims.now c.in_ok-found.field-0 c.in_default.not-Some
    c.in_ok-found.ensures

pub loop-high-init : goal.loop-high-init
loop-high-init g c =
    let told = failing_some c.args.decls.now c.args.asked c.args.count c.in-Some.found c.args.claims.now c.in_ok-found.field-0
    c.in-Some.is c.in_ok-found.ensures in
    record {
      order = omega arith;
      within = omega (arith, told.0);
      none = none_at_first c.args.decls.now c.args.asked c.args.claims.now;
      some = told.1;
    }

pub loop-high-preserved-in-Some-2 : goal.loop-high-preserved-in-Some-2
loop-high-preserved-in-Some-2 g c =
    let inv = c.loop-high.invariant in
    let d = c.args.decls.now in
    let claims = c.args.claims.now in
    let limit = c.next_limit-limit.ensures in
    let told = failing_some d c.args.asked c.next_limit-limit.result c.in-Some-2.sub claims c.in_ok-sub.field-0
    c.in-Some-2.is c.in_ok-sub.ensures in
    record {
      order = told_behind d c.args.asked c.loop-high.low c.in-Some-2.sub claims inv.none told.1;
      within = omega (arith, told.0, limit, inv.within);
      none = inv.none;
      some = told.1;
    }

pub returns : goal.returns
returns g c =
    let inv = c.loop-high.invariant in
    let next : c.loop-high.high ≡ c.loop-high.low + 1 = omega (arith, inv.order, c.loop-high-test.false) in (
      omega (arith, inv.order, inv.within),
      inv.none,
      subst (λ n. ¬ NoneFails c.args.decls.now c.args.asked n c.args.claims.now) next inv.some,
    )
