use Rattle.item_uses.proofs.OneMore.{kind_of_each, place_of_each}
use Rattle.item_uses.proofs.between.interference_with_list.Goals as goal

pub loop-one-preserved : goal.loop-one-preserved
loop-one-preserved g c =
    let k = kind_of_each c.args.ours.now c.args.theirs.now c.loop-one.one-index c.one-item.result c.loop-one-test.true c.one-item.is in
    let p = place_of_each c.args.ours.now c.args.theirs.now c.loop-one.one-index c.one-item.result c.loop-one-test.true c.one-item.is in
    record { kind = cc; place = cc }
