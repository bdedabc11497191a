-- Cycles: each node on one is stuck, and the walk from a stuck node ends in one.
use Rattle.std.proofs.Common.{◌≡◌, ◌≢◌, ℕ, zero, suc, ◌+◌, ◌<◌, ◌==◌, Bool, true, false, List, [], ◌∷◌, ◌++◌, length, get_or, take, drop, Some, None, ◌↔◌, inl, inr, refl, sym, ap, subst, arith, append_assoc, append-nil, take-append-drop, AllPairs, slice_get, ◌∙◌, Contains}
use Rattle.std.specs.List.{list_any}
use Rattle.std.proofs.lemmas.Bool.{false≢true, both_ways, false_from_ne_true, true_from_ne_false, cases_Bool, eqb-true, eqb-false}
use Rattle.std.proofs.lemmas.Bool.Decides.{nat_tests}
use Rattle.std.proofs.lemmas.List.Elements.{Contains-get_or}
use Rattle.std.proofs.lemmas.Grind.{common_steps}
use Rattle.std.proofs.lemmas.Map.Views.{any-filter_same}
use Rattle.std.proofs.lemmas.Option.{gets, slice_get-get_or, same_Some}
use Rattle.vocabulary.specs.Prelude.{is_in, Node, WaitsOn, IsChain, IsCycle, AreLinked}
use Rattle.semantics.specs.ReplayOrder.{positions, waits_at, has_event, replay_order, is_stuck, stuck_nodes, stuck_wait, up_to, walk, from_least, cycle_from, shown_cycle}
use Rattle.log_laws.proofs.lemmas.Members.{is_in_of, member_in}
use Rattle.list_lemmas.proofs.lemmas.Contained.{any_at, any_found, find_any, found_at, Contains-here, Contains-nil, Contains-cases}
use Rattle.list_lemmas.proofs.lemmas.Filtered.{of_filter}
use Rattle.list_lemmas.proofs.lemmas.Pairs.{Apart, apart_put, apart_none}
use Rattle.list_lemmas.proofs.lemmas.Parts.{split_at, one_fails, few}
use Rattle.list_lemmas.proofs.lemmas.Ranges.{number_within, number_in}
use Rattle.log_laws.proofs.lemmas.Rounds.{is_met, not_before_itself, replay, listed}

apart_turned : (k : ℕ) (ks : List ℕ) → AllPairs (λ a b. a ≢ b) (k ∷ ks) → AllPairs (λ a b. a ≢ b) (ks ++ k ∷ [])
apart_turned k ks h x y d lt within e = grind (arith, common_steps, h (suc x) (suc y) d, h zero (suc x) d)

apart_front : (xs ys : List ℕ) → AllPairs (λ a b. a ≢ b) (xs ++ ys) → AllPairs (λ a b. a ≢ b) xs
apart_front xs ys h i j d lt within = grind (arith, common_steps, h i j d)

module _ (nodes : List Node) where
  chain_more : (start : ℕ) (between : List ℕ) (mid end : ℕ) → IsChain nodes start between mid → WaitsOn nodes end mid
      → IsChain nodes start (between ++ mid ∷ []) end
  chain_more start [] mid end chain waits = (chain, waits)
  chain_more start (next ∷ between) mid end chain waits = (chain.0, chain_more next between mid end chain.1 waits)

  -- A cycle may begin at its second node, and so at any.
  turned_by_one : (k : ℕ) (ks : List ℕ) → IsCycle nodes (k ∷ ks) → IsCycle nodes (ks ++ k ∷ [])
  turned_by_one k [] h = h
  turned_by_one k (j ∷ ks) h = (apart_turned k (j ∷ ks) h.0, chain_more j ks k j h.1.1 h.1.0)

  turned : (front back : List ℕ) → IsCycle nodes (front ++ back) → IsCycle nodes (back ++ front)
  turned [] back h = rw (append-nil back) h
  turned (k ∷ front) back h =
      let by_one = rw (append_assoc front back (k ∷ [])) at (turned_by_one k (front ++ back) h) in
      rw (append_assoc back (k ∷ []) front) at (turned front (back ++ k ∷ []) by_one)

  from_least_cycle : (ks : List ℕ) → IsCycle nodes ks → IsCycle nodes (from_least ks)
  from_least_cycle [] h = h
  from_least_cycle (k ∷ ks) h = turned (take _ (k ∷ ks)) (drop _ (k ∷ ks)) (rw take-append-drop h)

  pub stuck_in : (k : ℕ) → k < length nodes → is_stuck nodes k ≡ true → Contains (stuck_nodes nodes) k
  stuck_in k lt is = member_in (stuck_nodes nodes) k
      (any-filter_same (λ j. j == k) (is_stuck nodes) true (λ j e. rw (eqb-true j k e) is) (positions nodes)
      ∙ is_in_of (positions nodes) k (number_in (length nodes) k lt))

  stuck_from : (k : ℕ) → Contains (stuck_nodes nodes) k → (k < length nodes) × (is_stuck nodes k ≡ true)
  stuck_from k m = let at = of_filter (is_stuck nodes) (positions nodes) k m in (number_within (length nodes) k at.0, at.1)

  -- Whether a node lists the event of another.
  abbrev lists : ℕ → ℕ → Bool
  lists k j = list_any (λ event. has_event nodes event j) (waits_at nodes k)

  waits_on : (k j event : ℕ) (by on : Node) → slice_get nodes k ≡ Some by → slice_get nodes j ≡ Some on → Contains by.waits event
      → has_event nodes event j ≡ true → WaitsOn nodes k j
  waits_on k j event by on by_is on_is waits has =
      let same : event ≡ on.done = sym (eqb-true on.done event (rw on_is at has)) in
      record { on = on; by = by; on_is = on_is; by_is = by_is; listed = subst (Contains by.waits) same waits }

  -- Each node of a list waits on the one in front of it, and the first on this one.
  abbrev Trail : ℕ → List ℕ → Type 0
  Trail k [] = Unit {0}
  Trail k (w ∷ ws) = WaitsOn nodes w k × Trail w ws

  -- Where the walk comes to a node again, the nodes from there on are a first part of those walked, and make a chain.
  up_to_chain : (k start : ℕ) (ws : List ℕ) (end : ℕ) → Trail start ws → Contains ws k → WaitsOn nodes end k
      → IsChain nodes start (up_to k ws) end × (back : List ℕ) × (ws ≡ up_to k ws ++ back)
  up_to_chain k start [] end trail m waits = absurd (Contains-nil m)
  up_to_chain k start (w ∷ ws) end trail m waits = elim (cases_Bool (w == k)) [
    | inl here ↦ rw here ((trail.0, rw (eqb-true w k here) waits), ws, refl)
    | inr not_here ↦ elim (Contains-cases ws m) [
      | inl is ↦ absurd (eqb-false w k not_here (sym is))
      | inr later ↦ let r = up_to_chain k w ws end trail.1 later waits in rw not_here ((trail.0, r.0), r.1, ap (λ ns. w ∷ ns) r.2)
    ]
  ]

  -- The walk so far: stuck nodes, each once.
  abbrev IsWalk : ℕ → List ℕ → Type 0
  IsWalk k walked = Apart walked × ((j : ℕ) → Contains walked j → Contains (stuck_nodes nodes) j) × Trail k walked

  closed : (walked : List ℕ) (k : ℕ) → IsWalk k walked → Contains walked k → IsCycle nodes (up_to k walked)
  closed [] k so_far m = absurd (Contains-nil m)
  closed (w ∷ ws) k so_far m =
      let front = up_to_chain k k (w ∷ ws) w so_far.2 m so_far.2.0 in
      (apart_front (up_to k (w ∷ ws)) front.1 (subst (AllPairs (λ a b. a ≢ b)) front.2 so_far.0), front.0.1)

  none_from : (ks : List ℕ) → (cycle_from nodes ks ≡ None) ↔ ((k : ℕ) → Contains ks k → ⊥)
  none_from [] = (λ e k m. Contains-nil m, λ h. refl)
  none_from (k ∷ ks) = (λ e. absurd (cc e), λ h. absurd (h k (Contains-here ks)))

  pub none_shown : (shown_cycle nodes ≡ None) ↔ ((k : ℕ) → k < length nodes → is_stuck nodes k ≡ false)
  unfolding shown_cycle
  none_shown = (
    λ e k lt. false_from_ne_true (is_stuck nodes k) (λ stuck. (none_from (stuck_nodes nodes)).0 e k (stuck_in k lt stuck)),
    λ h. (none_from (stuck_nodes nodes)).1 (λ k m. let at = stuck_from k m in both_ways (is_stuck nodes k) (h k at.0) at.1),
  )

  module _ (linked : AreLinked nodes) where
    -- A node on a cycle comes before itself, so no round takes it.
    pub cycle_is_stuck : (ks : List ℕ) → IsCycle nodes ks → (k : ℕ) → Contains ks k → is_stuck nodes k ≡ true
    cycle_is_stuck ks cycle k m =
        let cut = split_at ks k m in
        let from_k : IsCycle nodes (k ∷ (cut.1 ++ cut.0)) = turned cut.0 (k ∷ cut.1) (subst (IsCycle nodes) cut.2 cycle) in
        true_from_ne_false (is_stuck nodes k) (λ free. not_before_itself (replay nodes).taken linked k (listed nodes k free)
        (cut.1 ++ cut.0, from_k.1))

    -- A stuck node waits on a stuck node: the next of the walk.
    next : (k : ℕ) → Contains (stuck_nodes nodes) k → (j : ℕ) × (stuck_wait nodes k ≡ Some j) × Contains (stuck_nodes nodes) j
        × WaitsOn nodes k j
    next k m =
        let stuck = stuck_from k m in
        let none : Node = record { done = 0; waits = [] } in
        let by : Node = get_or nodes k none in
        let by_is : slice_get nodes k ≡ Some by = slice_get-get_or nodes k none stuck.0 in
        let waits : (event : ℕ) → Contains (waits_at nodes k) event → Contains by.waits event =
        λ event m. (rw by_is at m) in
        let unmet = one_fails (is_met nodes (replay_order nodes)) (waits_at nodes k) (rw stuck.1 at ((replay nodes).full k stuck.0)) in
        let some = linked.linked by unmet.0 (Contains-get_or nodes k none stuck.0) (waits unmet.0 unmet.1) in
        let j : ℕ = some.1.0 in
        let has : has_event nodes unmet.0 j ≡ true = grind (arith, nat_tests, gets, some.1.1, some.1.2, some.2) in
        let j_stuck = true_from_ne_false (is_stuck nodes j)
        (λ free. false≢true (sym unmet.2 ∙ any_at (has_event nodes unmet.0) (replay_order nodes) j (listed nodes j free) has)) in
        let listed_there : lists k j ≡ true = any_at (λ event. has_event nodes event j) (waits_at nodes k) unmet.0 unmet.1 has in
        let first = find_any (lists k) (stuck_nodes nodes)
        (any_at (lists k) (stuck_nodes nodes) j (stuck_in j some.1.1 j_stuck) listed_there) in
        let found = found_at (lists k) (stuck_nodes nodes) first.0 first.1 in
        let one = any_found (λ event. has_event nodes event first.0) (waits_at nodes k) found.1 in
        let on_is = slice_get-get_or nodes first.0 none (stuck_from first.0 found.0).0 in
        (first.0, first.1, found.0, waits_on k first.0 one.0 by (get_or nodes first.0 none) by_is on_is (waits one.0 one.1) one.2)

    -- The walk meets no more nodes than there are, so it comes to one again.
    walk_cycle : (n : ℕ) (walked : List ℕ) (k : ℕ) → IsWalk k walked → Contains (stuck_nodes nodes) k → length walked + n ≡ length nodes + 1
        → IsCycle nodes (walk nodes n walked k)
    walk_cycle zero walked k so_far stuck many =
        absurd (omega (arith, many, few walked (length nodes) so_far.0 (λ j m. (stuck_from j (so_far.1 j m)).0)))
    walk_cycle (suc n) walked k so_far stuck many = elim (cases_Bool (is_in walked k)) [
      | inl back ↦ rw back (closed walked k so_far (member_in walked k back))
      | inr new ↦
          let step = next k stuck in
          let apart : Apart (k ∷ walked) =
          apart_put k walked (λ j m e. both_ways (is_in walked k) new (is_in_of walked k (subst (Contains walked) (sym e) m))) so_far.0 in
          let all_stuck : (j : ℕ) → Contains (k ∷ walked) j → Contains (stuck_nodes nodes) j =
          λ j m. elim (Contains-cases walked m) [ inl is ↦ rw is stuck | inr before ↦ so_far.1 j before ] in
          rw (new, step.1) (walk_cycle n (k ∷ walked) step.0 (apart, all_stuck, (step.3, so_far.2)) step.2 (omega (arith, many)))
    ]

    pub stuck_cycle : (k : ℕ) → Contains (stuck_nodes nodes) k → IsCycle nodes (walk nodes (length nodes + 1) [] k)
    stuck_cycle k stuck = walk_cycle (length nodes + 1) [] k (apart_none, λ j m. absurd (Contains-nil m), tt) stuck (omega arith)

    -- So there is a cycle where a node is stuck.
    pub has_cycle : (k : ℕ) → k < length nodes → is_stuck nodes k ≡ true → (c : List ℕ) × IsCycle nodes c
    has_cycle k within stuck = (_, stuck_cycle k (stuck_in k within stuck))

    shown_from : (ks : List ℕ) → ((k : ℕ) → Contains ks k → Contains (stuck_nodes nodes) k) → (c : List ℕ) → cycle_from nodes ks ≡ Some c
        → IsCycle nodes c
    shown_from [] all c e = absurd (cc e)
    shown_from (k ∷ ks) all c e = subst (IsCycle nodes) (same_Some _ c e) (from_least_cycle _ (stuck_cycle k (all k (Contains-here ks))))

    pub shown_is_cycle : (c : List ℕ) → shown_cycle nodes ≡ Some c → IsCycle nodes c
    unfolding shown_cycle
    shown_is_cycle = shown_from (stuck_nodes nodes) (λ k m. m)
