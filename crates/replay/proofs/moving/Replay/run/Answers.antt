use Rattle.std.proofs.Common.{◌<◌, length, Contains, All, sym, ap, ◌∙◌, subst}
use Rattle.std.proofs.lemmas.List.{length-map}
use Rattle.vocabulary.specs.Prelude.{graph_of, steps_by}
use Rattle.semantics.specs.ReplayOrder.{replay_order}
use Rattle.list_lemmas.proofs.lemmas.Contained.{all_contained}
use Rattle.log_laws.proofs.lemmas.Rounds.{listed_decides}
use Rattle.replay.specs.Standing.{IsReplayedUpTo}
use Rattle.replay.proofs.Laws.{cut_nodes, cut_stands}
use Rattle.replay.proofs.Wanting.{none_wanted}
use Rattle.replay.proofs.moving.Replay.run.Goals as goal

pub take_nodes-requires-clause-nodes : goal.take_nodes-requires-clause-nodes
take_nodes-requires-clause-nodes g c =
    let t = c.args.self.now.log.now in
    let same = c.as_slice.ensures ∙ c.requires.order.replayed in
    let within = all_contained (λ k. k < length t.nodes) c.as_slice.result.now
    (λ k h. subst (λ n. k < n) (length-map t.nodes _)
    ((listed_decides (graph_of t.nodes) k).0 (subst (λ ns. Contains ns k) same h)).0) in
    subst (λ ns. All (λ k. k < length ns) c.as_slice.result.now) (sym (cut_nodes t c.args.self.now.cut.now c.requires.cut)) within

pub take_nodes-requires-clause-stands : goal.take_nodes-requires-clause-stands
take_nodes-requires-clause-stands g c =
    let t = c.args.self.now.log.now in
    let u = c.args.self.now.cut.now in
    let of = c.requires.cut in
    let same = c.as_slice.ensures ∙ c.requires.order.replayed ∙ ap (λ ns. replay_order (graph_of ns)) (sym (cut_nodes t u of)) in
    subst (λ ks. IsReplayedUpTo u (steps_by u ks) c.in_ok-store.store.cells) (sym same)
    (cut_stands t c.is_declared.ensures u of c.requires.mapped c.in_ok-store.store.cells c.in_ok-store.ensures)

pub take_nodes-requires-clause-wanted : goal.take_nodes-requires-clause-wanted
take_nodes-requires-clause-wanted g c =
    none_wanted c.in_ok-store.store.values c.args.self.now.versions.now c.new-wanted.result c.new-wanted.ensures
