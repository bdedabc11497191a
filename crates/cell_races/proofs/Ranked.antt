-- What the order and the marks of a graph say of each other.
use Rattle.std.proofs.Common.{◌≡◌, ◌<◌, ℕ, List, length, slice_index, sym, subst}
use Rattle.list_lemmas.proofs.lemmas.Contained.{all_contained}
use Rattle.vocabulary.specs.Prelude.{Node}
use Rattle.event_graph.specs.Orders.{IsOrderOf}
use Rattle.event_graph.proofs.lemmas.Whole.{order_within}
use Rattle.reach_marks.specs.Reached.{Marks, AreMarksOf}
use Rattle.reach_marks.proofs.lemmas.Transitive.{transitive}
use Rattle.cell_races.specs.Ranks.{AreRanked}

pub ranked : (nodes : List Node) (order : List ℕ) (marks : Marks) → IsOrderOf nodes order → AreMarksOf nodes marks → AreRanked order marks
ranked nodes order marks is are = record {
  marked = all_contained (λ k. k < length marks.places) order (λ k m. rw are.places.each (order_within nodes order is k m));
  placed = λ p. subst (λ ns. p < length ns → slice_index marks.places (slice_index ns p) ≡ p) (sym is.replayed) (are.places.placed p);
  later = are.later;
  goes_on = transitive nodes marks are;
}
