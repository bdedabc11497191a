-- Places in the replay order.
use Rattle.std.proofs.Common.{◌≡◌, ℕ, ◌==◌, ◌<◌, inl, inr, Bool, true, false, List, sym, ap, subst, ◌∙◌, arith, length, slice_index, position, unwrap_or, nat_lt, cond, Some, None, All, Contains}
use Rattle.std.specs.List.{position_or_len}
use Rattle.std.proofs.lemmas.Bool.{true≢false, cases_Bool, eqb-true}
use Rattle.std.proofs.lemmas.Bool.Decides.{nat_tests}
use Rattle.std.proofs.lemmas.List.{get_or_default, length-map}
use Rattle.std.proofs.lemmas.List.Quantifiers.{position-Some}
use Rattle.std.proofs.lemmas.List.Sums.{fails_before_first}
use Rattle.vocabulary.specs.Prelude.{AreLinked, Node, Tables, graph_of}
use Rattle.event_graph.specs.Orders.{IsOrderOf}
use Rattle.event_graph.proofs.lemmas.Whole.{order_within, order_whole}
use Rattle.reach_marks.specs.Reached.{Marks, AreMarksOf}
use Rattle.list_lemmas.proofs.lemmas.Contained.{all_contained}
use Rattle.list_lemmas.proofs.lemmas.Firsts.{cases_option}
use Rattle.cell_races.specs.Ranks.{rank_in}
use Rattle.race_scan.specs.Placed.{ArePlaced}

-- A node, at its place.
pub at_place : (count : ℕ) (order : List ℕ) → ((k : ℕ) → k < count → Contains order k) → (k : ℕ) → k < count
    → (p : ℕ) × (p < length order) × (slice_index order p ≡ k)
at_place count order all k lt = let c = all k lt in (c.0, c.1, get_or_default order c.0 0 k c.1 ∙ c.2)

module _ (count : ℕ) (order : List ℕ) (marks : Marks) (h : ArePlaced count order marks) where
  itself : (n : ℕ) → (n == n) ≡ true
  itself n = grind (arith, nat_tests)

  found : (k : ℕ) → k < count → (position (λ n. n == k) order ≡ None → ⊥)
  found k lt e =
      let passes : ℕ → Bool = λ n. n == k in
      let at = at_place count order h.whole k lt in
      elim (cases_Bool (nat_lt (position_or_len passes order) (length order))) [
        | inl less ↦ let bad = sym (ap (λ b. cond b (Some (position_or_len passes order)) None) less) ∙ e in absurd cc
        | inr not_less ↦
            let far : at.0 < position_or_len passes order = behind at.0 (position_or_len passes order) (length order) at.1 not_less in
            true≢false (sym (ap passes at.2 ∙ itself k) ∙ fails_before_first passes order at.0 0 far)
      ]
    where
      behind : (p m n : ℕ) → p < n → nat_lt m n ≡ false → p < m
      behind p m n lt e = grind (arith, nat_tests)

  pub place_is : (k other : ℕ) → k < count → unwrap_or (position (λ n. n == k) order) other ≡ rank_in marks k
  place_is k other lt = elim (cases_option (position (λ n. n == k) order)) [
    | inl none ↦ absurd (found k lt none)
    | inr some ↦
        let at = position-Some (λ n. n == k) order some.0 0 some.1 in
        let is : slice_index order some.0 ≡ k = eqb-true (slice_index order some.0) k at.1 in
        ap (λ o. unwrap_or o other) some.1 ∙ (sym (h.placed some.0 at.0) ∙ ap (rank_in marks) is)
  ]

-- The order of a graph has its nodes alone.
pub order_below : (nodes : List Node) (order : List ℕ) → IsOrderOf nodes order → All (λ k. k < length nodes) order
order_below nodes order is = all_contained (λ k. k < length nodes) order (order_within nodes order is)

-- The order of a graph has all of its nodes, and its marks their places.
pub all_placed : (nodes : List Node) (order : List ℕ) (marks : Marks) → IsOrderOf nodes order → AreMarksOf nodes marks → AreLinked nodes
    → ArePlaced (length nodes) order marks
all_placed nodes order marks is are linked = record {
  within = order_below nodes order is;
  whole = order_whole nodes order is linked;
  placed = λ p. subst (λ ns. p < length ns → slice_index marks.places (slice_index ns p) ≡ p) (sym is.replayed) (are.places.placed p);
}

-- The nodes of an order are of the log of whose nodes the graph is.
pub order_in_log : (t : Tables) (nodes : List Node) (order : List ℕ) → nodes ≡ graph_of t.nodes → IsOrderOf nodes order
    → All (λ k. k < length t.nodes) order
order_in_log t nodes order graph is =
    subst (λ n. All (λ k. k < n) order) (ap (λ ns. length ns) graph ∙ length-map t.nodes _) (order_below nodes order is)
