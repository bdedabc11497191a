use Rattle.std.proofs.Common.{sym, ◌∙◌}
use Rattle.licences.proofs.Reaching.{doubt_at_first, doubt_by_one}
use Rattle.licences.proofs.refusal.first_doubt.Goals as goal

pub returns-then-ne : goal.returns-then-ne
returns-then-ne g c = doubt_by_one c.args.all.now c.one-item.result c.args.asked.now c.args.field c.outside-point.result
    (c.loop-one.one-index, c.loop-one-test.true, sym c.one-item.is) (sym c.serves.ensures ∙ c.if-serves.true) c.outside-point.ensures

pub returns : goal.returns
returns g c = doubt_at_first c.args.all.now c.args.asked.now c.args.field c.next_from-first.result c.next_from-first.ensures
