use Rattle.std.proofs.Common.{◌≡◌, All, is_some, true, subst, arith, refl}
use Rattle.id_maps.specs.Entries.{entry_at}
use Rattle.std.proofs.lemmas.List.{take_all}
use Rattle.vocabulary.specs.Prelude.{Node}
use Rattle.event_graph.proofs.linked.are_waits_known.Goals as goal

pub returns : goal.returns
returns c = (
  λ _. subst (All (λ (n : Node). All (λ e. is_some (entry_at c.args.places.now e) ≡ true) n.waits))
      (take_all c.loop-node.node-index c.args.nodes.now (omega arith)) c.loop-node.invariant,
  λ _. refl,
)
