-- How the nodes that wait, the queue and the replay order go together.
use Rattle.std.proofs.Common.{AllPairs, add-one, ◌≡◌, ◌≢◌, ℕ, zero, suc, ◌+◌, ◌<◌, ◌≤◌, ◌==◌, ◌&&◌, ◌||◌, not, Bool, true, false, List, [], ◌∷◌, ◌++◌, length, get_or, arith, refl, sym, ap, ◌∙◌, subst, if◌then◌else◌, inl, inr, ◌↔◌, find, Some, None, slice_get, Contains}
use Rattle.std.specs.List.{list_all, range_with_len}
use Rattle.std.proofs.lemmas.Bool.{true≢false, false_from_ne_true, and_parts, or_cases, cases_eq, not-true, or_parts, or_right, eqb-true}
use Rattle.std.proofs.lemmas.Bool.Decides.{nat_tests}
use Rattle.std.proofs.lemmas.List.Folds.{list_any-append}
use Rattle.std.proofs.lemmas.Option.{gets, slice_get_cases, slice_get_within}
use Rattle.std.proofs.Math.Bool.{or-false}
use Rattle.vocabulary.specs.Prelude.{is_in, Node}
use Rattle.semantics.specs.ReplayOrder.{positions, waits_at, has_event, is_ready, after_rounds}
use Rattle.log_laws.proofs.lemmas.Members.{is_in_of, member_in}
use Rattle.std.proofs.lemmas.List.Elements.{Contains-append_cases}
use Rattle.list_lemmas.proofs.lemmas.Contained.{found_at, any_found, only, Contains-nil}
use Rattle.list_lemmas.proofs.lemmas.Firsts.{cases_option}
use Rattle.list_lemmas.proofs.lemmas.Ranges.{number_within}
use Rattle.log_laws.proofs.lemmas.Rounds.{is_met}
use Rattle.event_graph.specs.WaitCounts.{times, AreWaiters}

-- How many of some events are not those of nodes taken.
abbrev pub unmet : List Node → List ℕ → List ℕ → ℕ
unmet nodes taken [] = 0
unmet nodes taken (e ∷ es) = (if is_met nodes taken e then 0 else 1) + unmet nodes taken es

-- ---- least ready node

-- The first number of a range that passes.
find_number : (p : ℕ → Bool) (first n k : ℕ) → first ≤ k → k < first + n → p k ≡ true → ((j : ℕ) → first ≤ j → j < k → p j ≡ false)
    → find p (range_with_len first n) ≡ Some k
find_number p first zero k low high passes below = absurd (omega (arith, low, high))
find_number p first (suc n) k low high passes below = elim (cases_eq first k) [
  | inl e ↦ let here : p first ≡ true = subst (λ j. p j ≡ true) (sym e) passes in rw here (ap (λ j. Some j) e)
  | inr ne ↦ rw (below first (omega arith) (omega (arith, low, ne)))
      (find_number p (first + 1) n k (omega (arith, low, ne)) (omega (arith, high)) passes (λ j from lt. below j (omega (arith, from)) lt))
]

pub find_least : (nodes : List Node) (p : ℕ → Bool) (k : ℕ) → k < length nodes → p k ≡ true → ((j : ℕ) → j < k → p j ≡ false)
    → find p (positions nodes) ≡ Some k
find_least nodes p k lt passes below = find_number p 0 (length nodes) k (omega arith) (omega (arith, lt)) passes (λ j _ h. below j h)

pub find_nothing : (nodes : List Node) (p : ℕ → Bool) → ((k : ℕ) → k < length nodes → p k ≡ false) → find p (positions nodes) ≡ None
find_nothing nodes p none = elim (cases_option (find p (positions nodes))) [
  | inl e ↦ e
  | inr some ↦ let r = found_at p (positions nodes) some.0 some.1 in
      absurd (true≢false (sym r.1 ∙ none some.0 (number_within (length nodes) some.0 r.0)))
]

-- Where nothing may be taken, no more rounds change anything.
pub rounds_stop : (nodes : List Node) (n : ℕ) (taken : List ℕ) → find (is_ready nodes taken) (positions nodes) ≡ None
    → after_rounds nodes n taken ≡ taken
rounds_stop nodes zero taken e = refl
rounds_stop nodes (suc n) taken e = rw e (rounds_stop nodes n taken e)

pub round_next : (nodes : List Node) (n m : ℕ) (taken : List ℕ) (k : ℕ) → n ≡ m + 1 → find (is_ready nodes taken) (positions nodes) ≡ Some k
    → after_rounds nodes n taken ≡ after_rounds nodes m (taken ++ k ∷ [])
round_next nodes n m taken k is e = rw (is, add-one m, e) refl

-- ---- waits

-- A node's event is met by no node that was taken before it.
pub fresh : (nodes : List Node) → AllPairs (λ (m : Node) (n : Node). m.done ≢ n.done) nodes → (taken : List ℕ) (k : ℕ) (n : Node)
    → slice_get nodes k ≡ Some n → is_in taken k ≡ false → is_met nodes taken n.done ≡ false
fresh nodes apart taken k n at out = false_from_ne_true (is_met nodes taken n.done) (λ met.
    let found = any_found (has_event nodes n.done) taken met in
    let same : found.0 ≡ k = one_place found.0 found.2 in
    true≢false (sym (is_in_of taken k (subst (Contains taken) same found.1)) ∙ out))
  where
    one_place : (i : ℕ) → has_event nodes n.done i ≡ true → i ≡ k
    one_place i has = grind (arith, nat_tests, gets, slice_get_cases nodes i, apart i k n, apart k i n)

met_more : (nodes : List Node) (taken : List ℕ) (k : ℕ) (n : Node) (e : ℕ) → slice_get nodes k ≡ Some n
    → is_met nodes (taken ++ k ∷ []) e ≡ (is_met nodes taken e || (n.done == e))
met_more nodes taken k n e at = list_any-append (has_event nodes e) taken (k ∷ [])
    ∙ rw at (ap (λ b. is_met nodes taken e || b) (or-false (n.done == e)))

pub unmet_more : (nodes : List Node) (taken : List ℕ) (k : ℕ) (n : Node) → slice_get nodes k ≡ Some n → is_met nodes taken n.done ≡ false
    → (ws : List ℕ) → unmet nodes (taken ++ k ∷ []) ws + times n.done ws ≡ unmet nodes taken ws
unmet_more nodes taken k n at new [] = omega arith
unmet_more nodes taken k n at new (e ∷ ws) = grind (arith, nat_tests, met_more nodes taken k n e at, unmet_more nodes taken k n at new ws)

pub unmet_none : (nodes : List Node) (taken ws : List ℕ) → unmet nodes taken ws ≡ 0 → list_all (is_met nodes taken) ws ≡ true
unmet_none nodes taken [] e = refl
unmet_none nodes taken (w ∷ ws) e = grind (arith, unmet_none nodes taken ws)

pub all_met : (nodes : List Node) (taken ws : List ℕ) → list_all (is_met nodes taken) ws ≡ true → unmet nodes taken ws ≡ 0
all_met nodes taken [] e = refl
all_met nodes taken (w ∷ ws) e = let r = and_parts (is_met nodes taken w) (list_all (is_met nodes taken) ws) e in
    rw r.0 (omega (arith, all_met nodes taken ws r.1))

pub unmet_at_first : (nodes : List Node) (ws : List ℕ) → unmet nodes [] ws ≡ length ws
unmet_at_first nodes [] = refl
unmet_at_first nodes (w ∷ ws) = omega (arith, unmet_at_first nodes ws)

-- ---- the queue

pub slice_get_some : {X : Type 0} (xs : List X) (k : ℕ) → k < length xs → (x : X) × (slice_get xs k ≡ Some x)
slice_get_some xs k lt = elim (slice_get_cases xs k).1 [ inl some ↦ (some.0, some.2) | inr none ↦ absurd (omega (arith, lt, none.0)) ]

ready_parts : (nodes : List Node) (taken : List ℕ) (k : ℕ) → is_ready nodes taken k ≡ true → (is_in taken k ≡ false)
    × (unmet nodes taken (waits_at nodes k) ≡ 0)
ready_parts nodes taken k e = let r = and_parts (not (is_in taken k)) (list_all (is_met nodes taken) (waits_at nodes k)) e in
    (not-true (is_in taken k) r.0, all_met nodes taken (waits_at nodes k) r.1)

ready_of : (nodes : List Node) (taken : List ℕ) (k : ℕ) → is_in taken k ≡ false → unmet nodes taken (waits_at nodes k) ≡ 0
    → is_ready nodes taken k ≡ true
ready_of nodes taken k out none = rw out (unmet_none nodes taken (waits_at nodes k) none)

-- A node that waits is a node.
waits_within : (nodes : List Node) (taken : List ℕ) (k : ℕ) → unmet nodes taken (waits_at nodes k) ≢ 0 → k < length nodes
waits_within nodes taken k some = elim (cases_option (slice_get nodes k)) [
  | inl none ↦ absurd (some (rw none refl))
  | inr n ↦ slice_get_within nodes k n.0 n.1
]

-- After some nodes were taken: how many waits are left of each node, and which nodes are in the queue.
pub record IsQueue (nodes : List Node) (taken pending : List ℕ) (ready : ℕ → Bool) : Type 0 where
  pub counts : (k : ℕ) → get_or pending k 0 ≡ unmet nodes taken (waits_at nodes k)
  pub queued : (k : ℕ) → (ready k ≡ true) ↔ ((k < length nodes) × (is_ready nodes taken k ≡ true))
  pub met : (k : ℕ) → Contains taken k → unmet nodes taken (waits_at nodes k) ≡ 0

module _ {nodes : List Node} (apart : AllPairs (λ (m : Node) (n : Node). m.done ≢ n.done) nodes) {waiters : List (List ℕ)}
    (w : AreWaiters nodes waiters) {taken pending : List ℕ} {ready : ℕ → Bool} (h : IsQueue nodes taken pending ready) (k : ℕ)
    (is : ready k ≡ true) where
  pub taken_within : k < length nodes
  taken_within = ((h.queued k).0 is).0

  k_parts : (is_in taken k ≡ false) × (unmet nodes taken (waits_at nodes k) ≡ 0)
  k_parts = ready_parts nodes taken k ((h.queued k).0 is).1

  -- The waits of each node that this node meets are among those that are left.
  left : (s : ℕ) → unmet nodes (taken ++ k ∷ []) (waits_at nodes s) + times s (get_or waiters k []) ≡ unmet nodes taken (waits_at nodes s)
  left s = let n = slice_get_some nodes k taken_within in
      rw (w.listed k n.0 n.1 s) (unmet_more nodes taken k n.0 n.1 (fresh nodes apart taken k n.0 n.1 k_parts.0) (waits_at nodes s))

  pub enough : (s : ℕ) → times s (get_or waiters k []) ≤ get_or pending s 0
  enough s = omega (arith, left s, h.counts s)

  in_more : (q : ℕ) → is_in (taken ++ k ∷ []) q ≡ (is_in taken q || (k == q))
  in_more q = list_any-append (λ m. m == q) taken (k ∷ []) ∙ ap (λ b. is_in taken q || b) (or-false (k == q))

  module _ (after : List ℕ) (counts : (s : ℕ) → get_or after s 0 + times s (get_or waiters k []) ≡ get_or pending s 0)
      (rest next : ℕ → Bool) (popped : (q : ℕ) → rest q ≡ (ready q && not (k == q))) (queue : (q : ℕ)
      → next q ≡ (rest q || (not (get_or pending q 0 == 0) && (get_or after q 0 == 0)))) where
    counts_next : (q : ℕ) → get_or after q 0 ≡ unmet nodes (taken ++ k ∷ []) (waits_at nodes q)
    counts_next q = omega (arith, counts q, left q, h.counts q)

    met_next : (q : ℕ) → Contains (taken ++ k ∷ []) q → unmet nodes (taken ++ k ∷ []) (waits_at nodes q) ≡ 0
    met_next q m = elim (Contains-append_cases taken (k ∷ []) q m) [
      | inl old ↦ omega (arith, left q, h.met q old)
      | inr new ↦ let none : unmet nodes taken (waits_at nodes q) ≡ 0 =
          subst (λ j. unmet nodes taken (waits_at nodes j) ≡ 0) (sym (only new)) k_parts.1 in omega (arith, left q, none)
    ]

    queued_there : (q : ℕ) → next q ≡ true → (q < length nodes) × (is_ready nodes (taken ++ k ∷ []) q ≡ true)
    queued_there q e = elim (or_cases (rest q) (not (get_or pending q 0 == 0) && (get_or after q 0 == 0)) (sym (queue q) ∙ e)) [
      | inl old ↦
          let both = and_parts (ready q) (not (k == q)) (sym (popped q) ∙ old) in
          let was = (h.queued q).0 both.0 in
          let parts = ready_parts nodes taken q was.1 in (
            was.0,
            ready_of nodes (taken ++ k ∷ []) q (in_more q ∙ rw (parts.0, not-true (k == q) both.1) refl)
                (omega (arith, left q, parts.1)),
          )
      | inr new ↦
          let both = and_parts (not (get_or pending q 0 == 0)) (get_or after q 0 == 0) new in
          let some : get_or pending q 0 ≢ 0 = grind (arith, nat_tests, both.0) in
          let none : get_or after q 0 ≡ 0 = grind (arith, nat_tests, both.1) in
          let waits : unmet nodes taken (waits_at nodes q) ≢ 0 = λ bad. some (h.counts q ∙ bad) in
          let out : is_in taken q ≡ false = false_from_ne_true (is_in taken q) (λ inside. waits (h.met q (member_in taken q inside))) in
          let other : (k == q) ≡ false = false_from_ne_true (k == q)
          (λ same. waits (subst (λ j. unmet nodes taken (waits_at nodes j) ≡ 0) (eqb-true k q same) k_parts.1)) in (
            waits_within nodes taken q waits,
            ready_of nodes (taken ++ k ∷ []) q (in_more q ∙ rw (out, other) refl) (sym (counts_next q)
                ∙ none),
          )
    ]

    queued_back : (q : ℕ) → q < length nodes → is_ready nodes (taken ++ k ∷ []) q ≡ true → next q ≡ true
    queued_back q lt e =
        let parts = ready_parts nodes (taken ++ k ∷ []) q e in
        let out = or_parts (is_in taken q) (k == q) (sym (in_more q) ∙ parts.0) in
        let none : get_or after q 0 ≡ 0 = counts_next q ∙ parts.1 in
        elim (cases_eq (get_or pending q 0) 0) [
          | inl zero_left ↦
              let was = (h.queued q).1 (lt, ready_of nodes taken q out.0 (sym (h.counts q) ∙ zero_left)) in
              queue q ∙ rw (popped q, was, out.1) refl
          | inr some ↦
              let waits : (get_or pending q 0 == 0) ≡ false = grind (arith, nat_tests, some) in
              queue q ∙ rw (waits, none) (or_right (rest q) true refl)
        ]

    pub queue_next : IsQueue nodes (taken ++ k ∷ []) after next
    queue_next = record { counts = counts_next; queued = λ q. (queued_there q, λ r. queued_back q r.0 r.1); met = met_next }

  pub find_next : ((q : ℕ) → q < k → ready q ≡ false) → find (is_ready nodes taken) (positions nodes) ≡ Some k
  find_next below = find_least nodes (is_ready nodes taken) k taken_within ((h.queued k).0 is).1
      (λ j lt. false_from_ne_true (is_ready nodes taken j)
      (λ yes_ready. true≢false (sym ((h.queued j).1 (omega (arith, lt, taken_within), yes_ready)) ∙ below j lt)))

pub find_no_more : {nodes : List Node} {taken pending : List ℕ} {ready : ℕ → Bool} → IsQueue nodes taken pending ready
    → ((q : ℕ) → ready q ≡ false) → find (is_ready nodes taken) (positions nodes) ≡ None
find_no_more {nodes} {taken} {pending} {ready} h none =
    find_nothing nodes (is_ready nodes taken) (λ j lt. false_from_ne_true (is_ready nodes taken j)
    (λ is. true≢false (sym ((h.queued j).1 (lt, is)) ∙ none j)))

pub queue_first : (nodes : List Node) (pending : List ℕ) (ready : ℕ → Bool) → ((k : ℕ) → get_or pending k 0 ≡ length (waits_at nodes k))
    → length pending ≡ length nodes
    → ((q : ℕ) → (ready q ≡ true) ↔ ((q < length pending) × (get_or pending q 0 ≡ 0))) → IsQueue nodes [] pending ready
queue_first nodes pending ready counts long queued = record {
  counts = λ k. counts k ∙ sym (unmet_at_first nodes (waits_at nodes k));
  queued = λ q. (
    λ is. let r = (queued q).0 is in (
      omega (arith, r.0, long),
      ready_of nodes [] q refl (unmet_at_first nodes (waits_at nodes q) ∙ (sym (counts q) ∙ r.1)),
    ),
    λ r. (queued q).1 (
      omega (arith, r.0, long),
      counts q
          ∙ (sym (unmet_at_first nodes (waits_at nodes q)) ∙ (ready_parts nodes [] q r.1).1),
    ),
  );
  met = λ k m. absurd (Contains-nil m);
}
