-- The rounds in which nodes are taken, and the replay order.
use Rattle.std.proofs.Common.{find, Bool, ◌==◌, ◌≡◌, ◌≢◌, ℕ, zero, suc, ◌+◌, ◌<◌, ◌≤◌, true, false, List, [], ◌∷◌, ◌++◌, length, get_or, take, Some, ◌↔◌, inl, inr, refl, subst, arith, Contains, AllPairs, slice_get}
use Rattle.std.specs.List.{list_any, list_all}
use Rattle.std.proofs.lemmas.Bool.{not-false, false_from_ne_true}
use Rattle.std.proofs.lemmas.Bool.Decides.{nat_tests}
use Rattle.std.proofs.lemmas.Grind.{common_steps}
use Rattle.std.proofs.lemmas.List.{get_or_at, get_or_default, length-append, length-take-le, length_push}
use Rattle.std.proofs.lemmas.List.Folds.{Any-from_list_any, list_any_at}
use Rattle.std.proofs.lemmas.Option.{gets, slice_get_cases}
use Rattle.vocabulary.specs.Prelude.{is_in, Node, WaitsOn, IsChain, Before, AreLinked}
use Rattle.semantics.specs.ReplayOrder.{positions, waits_at, has_event, is_ready, after_rounds, replay_order, is_stuck}
use Rattle.log_laws.proofs.lemmas.Members.{is_in_of, member_in}
use Rattle.list_lemmas.proofs.lemmas.Contained.{all_at, found_at, none_found}
use Rattle.list_lemmas.proofs.lemmas.Firsts.{cases_option}
use Rattle.list_lemmas.proofs.lemmas.Parts.{few}
use Rattle.list_lemmas.proofs.lemmas.Ranges.{number_within, number_in}

-- No event is at two positions.
one_place : (nodes : List Node) → AreLinked nodes → (i j : ℕ) (n : Node) → has_event nodes n.done i ≡ true → slice_get nodes j ≡ Some n
    → i ≡ j
one_place nodes linked i j n has at = grind (arith, nat_tests, gets, slice_get_cases nodes i, linked.apart i j n, linked.apart j i n)

-- Whether a node with this event was taken.
abbrev pub is_met : List Node → List ℕ → ℕ → Bool
is_met nodes taken event = list_any (has_event nodes event) taken

-- Nodes that are taken one after the other.
pub record AreTaken (nodes : List Node) (ks : List ℕ) : Type 0 where
  pub at : (i d : ℕ) → i < length ks → (get_or ks i d < length nodes) × (is_ready nodes (take i ks) (get_or ks i d) ≡ true)

taken_more : (nodes : List Node) (ks : List ℕ) (k : ℕ) → AreTaken nodes ks → k < length nodes → is_ready nodes ks k ≡ true
    → AreTaken nodes (ks ++ k ∷ [])
taken_more nodes ks k h within ready = record { at = λ i d lt. grind (arith, common_steps, h.at i d) }

module _ {nodes : List Node} {ks : List ℕ} (h : AreTaken nodes ks) where
  -- No node is taken twice.
  pub once : AllPairs (λ a b. a ≢ b) ks
  once i j d lt within e = grind (
    arith,
    common_steps,
    nat_tests,
    h.at j d within,
    list_any_at (λ m. m == get_or ks j d) (take j ks) i d,
    length-take-le j ks,
  )

  pub taken_within : (k : ℕ) → Contains ks k → k < length nodes
  taken_within k m = let at = m in subst (λ j. j < length nodes) at.2 (h.at at.0 k at.1).0

  no_more : length ks ≤ length nodes
  no_more = few ks (length nodes) once taken_within

  module _ (linked : AreLinked nodes) where
    -- What comes before a node stands in front of it.
    waits_before : (i d j : ℕ) → i < length ks → WaitsOn nodes (get_or ks i d) j → (n : ℕ) × (n < i) × (get_or ks n j ≡ j)
    waits_before i d j lt w =
        let all_met : list_all (is_met nodes (take i ks)) (waits_at nodes (get_or ks i d)) ≡ true = grind (arith, h.at i d lt) in
        let met = all_at (is_met nodes (take i ks)) (waits_at nodes (get_or ks i d)) w.on.done all_met
        (rw w.by_is w.listed) in
        let found = Any-from_list_any (has_event nodes w.on.done) (take i ks) met in
        let same : found.1 ≡ j = one_place nodes linked found.1 j w.on found.4 w.on_is in (
          found.0,
          omega (arith, found.2, length-take-le i ks),
          grind (arith, common_steps, found.2, found.3, same, get_or_default (take i ks) found.0 j found.1),
        )

    stands_before : (i d j : ℕ) → i < length ks → (between : List ℕ) → IsChain nodes j between (get_or ks i d) → (n : ℕ) × (n < i)
        × (get_or ks n j ≡ j)
    stands_before i d j lt [] waits = waits_before i d j lt waits
    stands_before i d j lt (m ∷ between) chain =
        let next = stands_before i d m lt between chain.1 in
        let first = waits_before next.0 m j (omega arith) (rw next.2 chain.0) in
        (first.0, omega arith, first.2)

    pub in_turn : (i j d : ℕ) → i ≤ j → j < length ks → Before nodes (get_or ks j d) (get_or ks i d) → ⊥
    in_turn i j d le lt before =
        let at = stands_before i d (get_or ks j d) (omega arith) before.0 before.1 in
        once at.0 j d (omega arith) lt (grind (arith, get_or_default ks at.0 d (get_or ks j d), at.2))

    pub not_before_itself : (k : ℕ) → Contains ks k → Before nodes k k → ⊥
    not_before_itself k m before = let at = m in in_turn at.0 at.0 k (omega arith) at.1 (rw at.2 before)

-- What the proofs know of the replay order.
pub record IsReplay (nodes : List Node) (ks : List ℕ) : Type 0 where
  pub taken : AreTaken nodes ks
  pub full : (k : ℕ) → k < length nodes → is_ready nodes ks k ≡ false

-- Each round takes a node that may be taken. So many rounds more leave none, where there is room for no more than so many.
rounds : (nodes : List Node) (n : ℕ) (ks : List ℕ) → AreTaken nodes ks
    → ((k : ℕ) → k < length nodes → is_ready nodes ks k ≡ true → length nodes ≤ length ks + n) → IsReplay nodes (after_rounds nodes n ks)
rounds nodes zero ks h room = record {
  taken = h;
  full = λ k lt. false_from_ne_true (is_ready nodes ks k)
      (λ ready. omega (arith, room k lt ready, length_push ks k, no_more (taken_more nodes ks k h lt ready)));
}
rounds nodes (suc n) ks h room = elim (cases_option (find (is_ready nodes ks) (positions nodes))) [
  | inl none ↦ rw none
      (rounds nodes n ks h (λ k lt ready. grind (
        arith,
        none_found (is_ready nodes ks) (positions nodes) k none (number_in (length nodes) k lt),
      )))
  | inr some ↦
      let found = found_at (is_ready nodes ks) (positions nodes) some.0 some.1 in
      let lt : some.0 < length nodes = number_within (length nodes) some.0 found.0 in
      rw some.1 (rounds nodes n (ks ++ some.0 ∷ []) (taken_more nodes ks some.0 h lt found.1)
      (λ k _ _. omega (arith, room some.0 lt found.1, length_push ks some.0)))
]

pub replay : (nodes : List Node) → IsReplay nodes (replay_order nodes)
unfolding replay_order
replay nodes = rounds nodes (length nodes) [] (record { at = λ i d lt. absurd (omega arith) }) (λ k lt ready. omega arith)

pub before_met : (nodes : List Node) → AreLinked nodes → (front : List ℕ) (k : ℕ) (back : List ℕ) → replay_order nodes ≡ front ++ k ∷ back
    → (j : ℕ) → Before nodes j k → Contains front j
before_met nodes linked front k back is j before =
    let taken = subst (AreTaken nodes) is (replay nodes).taken in
    let within : length front < length (front ++ k ∷ back) = omega (arith, length-append front (k ∷ back)) in
    let at = stands_before taken linked (length front) k j within before.0 (rw (get_or_at front k back k (length front) refl) before.1) in
    (at.0, at.1, grind (arith, common_steps, at.1, at.2))

-- A node is stuck, or in the replay order.
pub listed : (nodes : List Node) (k : ℕ) → is_stuck nodes k ≡ false → Contains (replay_order nodes) k
listed nodes k free = member_in (replay_order nodes) k (not-false (is_in (replay_order nodes) k) free)

pub listed_decides : (nodes : List Node) (k : ℕ) → Contains (replay_order nodes) k ↔ ((k < length nodes) × (is_stuck nodes k ≡ false))
listed_decides nodes k = (
  λ h. (
    taken_within (replay nodes).taken k h,
    rw (is_in_of (replay_order nodes) k h) refl,
  ),
  λ h. (listed nodes k h.1),
)
