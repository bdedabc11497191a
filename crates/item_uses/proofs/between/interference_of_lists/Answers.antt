use Rattle.item_uses.proofs.OneMore.{kind_of_all, place_of_all}
use Rattle.item_uses.proofs.between.interference_of_lists.Goals as goal

pub loop-one-preserved : goal.loop-one-preserved
loop-one-preserved g c =
    let k = kind_of_all c.args.ours.now c.args.theirs.now c.loop-one.one-index c.one-item.result c.loop-one-test.true c.one-item.is in
    let p = place_of_all c.args.ours.now c.args.theirs.now c.loop-one.one-index c.one-item.result c.loop-one-test.true c.one-item.is in
    record { kind = cc; place = cc }
