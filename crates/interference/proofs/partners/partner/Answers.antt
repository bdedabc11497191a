use Rattle.std.proofs.Common.{◌<◌, length, ◌∙◌, arith}
use Rattle.interference.specs.Pairing.{asked_of}
use Rattle.interference.proofs.Rows.{row_starts, row_other}
use Rattle.interference.proofs.partners.partner.Goals as goal

pub returns-in-Some-clause-some : goal.returns-in-Some-clause-some
returns-in-Some-clause-some g c =
    let lt : c.loop-b.b < length c.args.search.now.items.now = omega (arith, c.loop-b-test.true, c.requires.end) in
    row_starts (asked_of c.args.search.now.asked) c.args.search.now.items.now c.args.a c.args.from c.loop-b.b c.in-Some.pair
    (omega (arith, c.requires.order)) lt c.loop-b.invariant.passed c.in-Some.ensures.some

pub loop-b-preserved : goal.loop-b-preserved
loop-b-preserved g c =
    let lt : c.loop-b.b < length c.args.search.now.items.now = omega (arith, c.loop-b-test.true, c.requires.end) in
    record {
      passed = c.loop-b.invariant.passed ∙ row_other
          (asked_of c.args.search.now.asked) c.args.search.now.items.now c.args.a c.loop-b.b lt c.in_default.ensures.none;
      memory = c.pair_of.ensures.memory;
    }
