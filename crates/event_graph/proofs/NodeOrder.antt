-- Where each node waits on earlier ones alone, the nodes are taken in their own order.
use Rattle.std.proofs.Common.{◌≡◌, ℕ, zero, suc, ◌+◌, ◌<◌, ◌==◌, true, false, List, [], ◌∷◌, ◌++◌, All, length, ◌≤◌, Option, option_map, unwrap_or, refl, sym, ap, ◌∙◌, subst, arith}
use Rattle.std.specs.List.{list_all, list_any, range_with_len}
use Rattle.std.proofs.lemmas.Bool.{eq-eqb, false_from_ne_true}
use Rattle.std.proofs.lemmas.Option.{slice_get_past}
use Rattle.vocabulary.specs.Prelude.{Node, is_in}
use Rattle.semantics.specs.ReplayOrder.{after_rounds, has_event, is_ready, replay_order, waits_at}
use Rattle.log_laws.proofs.lemmas.Members.{is_in_of, member_in}
use Rattle.list_lemmas.proofs.lemmas.Contained.{any_at}
use Rattle.list_lemmas.proofs.lemmas.Ranges.{number_in, number_within, range-more}
use Rattle.event_graph.specs.EventPlaces.{IsBehind, WaitBack}
use Rattle.event_graph.proofs.Taking.{find_least, round_next}

pub one_more : (k : ℕ) → range_with_len 0 k ++ k ∷ [] ≡ range_with_len 0 (k + 1)
one_more k =
    let same : k ≡ 0 + k = omega arith in
    let more : suc k ≡ k + 1 = omega arith in
    ap (λ m. range_with_len 0 k ++ m ∷ []) same ∙ sym (range-more 0 k) ∙ ap (range_with_len 0) more

module _ (nodes : List Node) (back : WaitBack nodes) where
  abbrev first : ℕ → List ℕ
  first n = range_with_len 0 n

  -- Events of nodes before one are met once these are taken.
  met : (k : ℕ) (events : List ℕ) → All (IsBehind nodes k) events
      → list_all (λ event. list_any (has_event nodes event) (first k)) events ≡ true
  met k [] behind = refl
  met k (e ∷ es) behind =
      let at = behind 0 e (omega arith) in
      let has : has_event nodes e at.0 ≡ true =
      ap (λ (o : Option ℕ). unwrap_or (option_map (λ d. d == e) o) false) at.2 ∙ eq-eqb e e refl in
      rw (any_at (has_event nodes e) (first k) at.0 (number_in k at.0 at.1) has) (met k es (λ j d lt. behind (suc j) d (omega (arith, lt))))

  ready : (k : ℕ) → is_ready nodes (first k) k ≡ true
  ready k =
      let new : is_in (first k) k ≡ false =
      false_from_ne_true (is_in (first k) k) (λ e. absurd (omega (arith, number_within k k (member_in (first k) k e)))) in
      rw new (met k (waits_at nodes k) (back k))

  taken : (k j : ℕ) → j < k → is_ready nodes (first k) j ≡ false
  taken k j lt = rw (is_in_of (first k) j (number_in k j lt)) refl

  rounds : (n k : ℕ) → k + n ≡ length nodes → after_rounds nodes n (first k) ≡ first (k + n)
  rounds zero k is = let same : k ≡ k + 0 = omega arith in ap first same
  rounds (suc n) k is =
      let same : k + 1 + n ≡ k + suc n = omega arith in
      round_next nodes (suc n) n (first k) k (omega arith)
      (find_least nodes (is_ready nodes (first k)) k (omega (arith, is)) (ready k) (taken k))
      ∙ ap (after_rounds nodes n) (one_more k)
      ∙ rounds n (k + 1) (omega (arith, is)) ∙ ap first same

  pub in_node_order : replay_order nodes ≡ range_with_len 0 (length nodes)
  unfolding replay_order
  in_node_order = let same : 0 + length nodes ≡ length nodes = omega arith in rounds (length nodes) 0 same ∙ ap first same

-- Past the last node nothing is waited on.
pub back_past : (nodes : List Node) (k : ℕ) → length nodes ≤ k → All (IsBehind nodes k) (waits_at nodes k)
back_past nodes k past = subst (All (IsBehind nodes k))
    (sym (ap (λ (o : Option Node). unwrap_or (option_map (λ (n : Node). n.waits) o) []) (slice_get_past nodes k past)))
    (λ j d lt. absurd (omega (arith, lt)))
