use Rattle.std.proofs.Common.{◌≡◌, ◌+◌, ◌-◌, ◌/◌, subst, arith}
use Rattle.std.proofs.lemmas.Bool.{both_ways}
use Rattle.launch_claims.specs.Blocks.{HasClashUpTo}
use Rattle.launch_claims.proofs.Halving.{not_before}
use Rattle.launch_claims.proofs.first_block.first_up_to.Goals as goal

pub loop-low-preserved : goal.loop-low-preserved
loop-low-preserved c =
    let inv = c.loop-low.invariant in
    let lt = c.loop-low-test.true in
    let middle = c.loop-low.low + (c.loop-low.high - c.loop-low.low) / 2 in
    record {
      order = omega (arith, lt);
      clash = inv.clash;
      least = λ m h. not_before c.args.blocks.now middle m
          (λ k. both_ways c.in_ok-has_clash_up_to.field-0 c.if-branch.false (c.in_ok-has_clash_up_to.ensures.1 k)) h;
    }

pub returns : goal.returns
returns c =
    let inv = c.loop-low.invariant in
    let end : c.loop-low.high ≡ c.loop-low.low = omega (arith, inv.order, c.loop-low-test.false) in
    (subst (HasClashUpTo c.args.blocks.now) end inv.clash, inv.least)
