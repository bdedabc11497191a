use Rattle.licences.proofs.Least.{refused_on}
use Rattle.std.proofs.Common.{◌∙◌, sym}
use Rattle.licences.proofs.refusal.first_refused.Goals as goal

pub loop-one-preserved : goal.loop-one-preserved
loop-one-preserved g c = let x = c.refused.ensures in let y = c.in_default.is in
    refused_on c.args.all.now c.args.own.now c.loop-one.one-index c.one-item.result c.loop-one-test.true c.one-item.is
    (sym c.refused.ensures ∙ c.in_default.is) c.loop-one.invariant
