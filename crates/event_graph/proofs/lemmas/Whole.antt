-- An order has the nodes of its graph, and all of them.
use Rattle.std.proofs.Common.{ℕ, ◌<◌, List, length, Contains, sym, subst}
use Rattle.std.proofs.lemmas.Bool.{false_from_ne_true}
use Rattle.vocabulary.specs.Prelude.{Node, AreLinked}
use Rattle.semantics.specs.ReplayOrder.{is_stuck}
use Rattle.log_laws.proofs.lemmas.Cycles.{has_cycle}
use Rattle.log_laws.proofs.lemmas.Rounds.{listed_decides}
use Rattle.event_graph.specs.Orders.{IsOrderOf}

module _ (nodes : List Node) (order : List ℕ) (is : IsOrderOf nodes order) where
  pub order_within : (k : ℕ) → Contains order k → k < length nodes
  order_within k m = ((listed_decides nodes k).0 (subst (λ ks. Contains ks k) is.replayed m)).0

  pub order_whole : AreLinked nodes → (k : ℕ) → k < length nodes → Contains order k
  order_whole linked k lt = subst (λ ks. Contains ks k) (sym is.replayed)
      ((listed_decides nodes k).1 (
        lt,
        false_from_ne_true (is_stuck nodes k) (λ e. let c = has_cycle nodes linked k lt e in
            is.free c.0 c.1),
      ))
