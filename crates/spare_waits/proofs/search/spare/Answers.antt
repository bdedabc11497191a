use Rattle.std.proofs.Common.{◌≡◌, length, arith}
use Rattle.spare_laws.proofs.lemmas.Growing.{finished, finished_few}
use Rattle.spare_laws.proofs.lemmas.Spared.{spare_same, spare_least}
use Rattle.spare_waits.proofs.search.spare.Goals as goal

pub returns-clause-spare : goal.returns-clause-spare
returns-clause-spare c =
    let all : c.loop-node.node ≡ length c.args.graph.now =
    omega (arith, c.loop-node-test.false, c.loop-node.auto.node-end, c.len-node-end.ensures.count) in
    finished c.args.graph.now c.loop-node.node c.loop-node.list.items c.from_vec.result c.loop-node.invariant all c.from_vec.ensures

pub returns-clause-few : goal.returns-clause-few
returns-clause-few c =
    let all : c.loop-node.node ≡ length c.args.graph.now =
    omega (arith, c.loop-node-test.false, c.loop-node.auto.node-end, c.len-node-end.ensures.count) in
    finished_few c.args.graph.now c.loop-node.node c.loop-node.list.items c.from_vec.result c.loop-node.invariant all c.from_vec.ensures

pub returns-clause-same : goal.returns-clause-same
returns-clause-same c = spare_same c.args.graph.now c.len-linked.ensures.linked c.requires.order.free c.from_vec.result
    (returns-clause-spare c)

pub returns-clause-least : goal.returns-clause-least
returns-clause-least c = spare_least c.args.graph.now c.len-linked.ensures.linked c.requires.order.free c.from_vec.result
    (returns-clause-spare c)
