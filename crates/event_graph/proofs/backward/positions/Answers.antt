use Rattle.std.proofs.Common.{◌∙◌, ◌++◌, ◌∷◌, [], ap}
use Rattle.event_graph.proofs.NodeOrder.{one_more}
use Rattle.event_graph.proofs.backward.positions.Goals as goal

pub loop-k-preserved : goal.loop-k-preserved
loop-k-preserved c = c.in_ok-push.ensures.items ∙ ap (λ ks. ks ++ c.loop-k.k ∷ []) c.loop-k.invariant ∙ one_more c.loop-k.k
