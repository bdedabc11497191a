-- Of each listed wait it can be told whether it is spare, where it can be told which nodes are before which; so there is a list of the spare waits.
use Rattle.std.proofs.Common.{◌≡◌, ℕ, zero, suc, ◌<◌, ◌≤◌, ◌+◌, ◌↔◌, ◌⊎◌, inl, inr, Bool, true, false, List, [], ◌∷◌, ◌++◌, length, take, slice_get, refl, sym, ap, ◌∙◌, subst, arith, Some, Contains}
use Rattle.std.proofs.lemmas.Bool.{cases_Bool, cases_eq, true≢false}
use Rattle.std.proofs.lemmas.Option.{none-some, same_Some, slice_get_within}
use Rattle.std.specs.List.{range_with_len}
use Rattle.vocabulary.specs.Prelude.{ListedWait, is_in, Node, WaitsOn, Before}
use Rattle.semantics.specs.ReplayOrder.{waits_at, done_at}
use Rattle.semantics.specs.Spare.{IsBeforeAnother, IsSpare, AreSpareWaits}
use Rattle.list_lemmas.proofs.lemmas.Firsts.{cases_option}
use Rattle.list_lemmas.proofs.lemmas.Ranges.{number_in}
use Rattle.log_laws.proofs.lemmas.Members.{member_in, is_in_of}
use Rattle.spare_laws.specs.Listed.{AreUpTo, marked}
use Rattle.spare_laws.proofs.lemmas.Growing.{none_yet, node_more, finished}
use Rattle.spare_laws.proofs.lemmas.Listing.{event_within}
use Rattle.outcomes.proofs.Decided.{IsDecided, both_told, either_told, some_or_none, waits_told}

-- Some number below this one passes, or none does.
below_told : (P : ℕ → Type 0) (n : ℕ) → ((k : ℕ) → P k → k < n) → ((k : ℕ) → IsDecided (P k)) → IsDecided ((k : ℕ) × P k)
below_told P n within tell = elim (some_or_none P (range_with_len 0 n) (λ k m. tell k)) [
  | inl some ↦ inl (some.0, some.2)
  | inr none ↦ inr (λ k. none k.0 (number_in n k.0 (within k.0 k.1)) k.1)
]

listed_told : (ws : List ℕ) (event : ℕ) → IsDecided (Contains ws event)
listed_told ws event = elim (cases_Bool (is_in ws event)) [
  | inl is ↦ inl (member_in ws event is)
  | inr other ↦ inr (λ listed. true≢false (sym (is_in_of ws event listed) ∙ other))
]

-- The test that a fact holds.
abbrev mark_of : {A : Type 0} → IsDecided A → Bool
mark_of (inl holds) = true
mark_of (inr fails) = false

mark_tells : {A : Type 0} (t : IsDecided A) → (mark_of t ≡ true) ↔ A
mark_tells (inl holds) = (λ e. holds, λ a. refl)
mark_tells (inr fails) = (λ e. absurd (true≢false (sym e)), λ a. absurd (fails a))

module _ (nodes : List Node) (before : (a b : ℕ) → IsDecided (Before nodes a b)) where
  done_told : (on event : ℕ) → IsDecided (done_at nodes on ≡ Some event)
  done_told on event = elim (cases_option (slice_get nodes on)) [
    | inl none ↦ inr (λ e. none-some event (sym (rw none refl) ∙ e))
    | inr some ↦ elim (cases_eq some.0.done event) [
      | inl is ↦ inl (rw some.1 (ap (λ d. Some d) is))
      | inr other ↦ inr (λ e. other (same_Some some.0.done event (rw some.1 at e)))
    ]
  ]

  -- A node that this one waits on, behind a node.
  abbrev Behind : ℕ → ℕ → ℕ → Type 0
  Behind node on other = WaitsOn nodes node other × Before nodes on other

  behind_told : (node on : ℕ) → IsDecided ((other : ℕ) × Behind node on other)
  behind_told node on = below_told (Behind node on) (length nodes) (λ other b. slice_get_within nodes other b.0.on b.0.on_is)
      (λ other. both_told (WaitsOn nodes node other) (Before nodes on other) (waits_told nodes node other) (before on other))

  another_told : (node event : ℕ) → IsDecided (IsBeforeAnother nodes node event)
  another_told node event =
      let By : ℕ → Type 0 = λ on. (done_at nodes on ≡ Some event) × ((other : ℕ) × Behind node on other) in
      elim (below_told By (length nodes) (λ on b. event_within nodes on event b.0)
      (λ on. both_told (done_at nodes on ≡ Some event) ((other : ℕ) × Behind node on other) (done_told on event)
      (behind_told node on))) [
        | inl b ↦ inl (record { on = b.0; other = b.1.1.0; done = b.1.0; waits = b.1.1.1.0; before = b.1.1.1.1 })
        | inr none ↦ inr (λ b. none (b.on, (b.done, (b.other, (b.waits, b.before)))))
      ]

  spare_told : (node k : ℕ) → IsDecided (IsSpare nodes node k)
  spare_told node k = elim (cases_option (slice_get (waits_at nodes node) k)) [
    | inl none ↦ inr (λ s. none-some s.event (sym none ∙ s.listed))
    | inr some ↦
        let earlier = take k (waits_at nodes node) in
        let Implied : ℕ → Type 0 = λ event. Contains earlier event ⊎ IsBeforeAnother nodes node event in
        elim (either_told (Contains earlier some.0) (IsBeforeAnother nodes node some.0) (listed_told earlier some.0)
        (another_told node some.0)) [
          | inl implied ↦ inl (record { event = some.0; listed = some.1; implied = implied })
          | inr fails ↦ inr (λ s. fails (subst Implied (same_Some s.event some.0 (sym s.listed ∙ some.1)) s.implied))
        ]
  ]

  -- For each place of a node, from one on, whether the wait there is spare.
  marks_from : ℕ → ℕ → ℕ → List Bool
  marks_from node k zero = []
  marks_from node k (suc n) = mark_of (spare_told node k) ∷ marks_from node (k + 1) n

  marked_is : (node k n i : ℕ) → slice_get (marks_from node k n) i ≡ Some true → IsSpare nodes node (k + i)
  unfolding marks_from
  marked_is node k zero i set = absurd (omega (arith, slice_get_within [] i true set))
  marked_is node k (suc n) zero set =
      let here : k ≡ k + 0 = omega arith in
      subst (IsSpare nodes node) here ((mark_tells (spare_told node k)).0 (same_Some (mark_of (spare_told node k)) true set))
  marked_is node k (suc n) (suc i) set =
      let same : k + 1 + i ≡ k + suc i = omega arith in
      subst (IsSpare nodes node) same (marked_is node (k + 1) n i set)

  is_marked : (node k n i : ℕ) → i < n → IsSpare nodes node (k + i) → slice_get (marks_from node k n) i ≡ Some true
  unfolding marks_from
  is_marked node k zero i lt s = absurd (omega (arith, lt))
  is_marked node k (suc n) zero lt s =
      let here : k + 0 ≡ k = omega arith in
      ap (λ b. Some b) ((mark_tells (spare_told node k)).1 (subst (IsSpare nodes node) here s))
  is_marked node k (suc n) (suc i) lt s =
      let same : k + suc i ≡ k + 1 + i = omega arith in
      is_marked node (k + 1) n i (omega (arith, lt)) (subst (IsSpare nodes node) same s)

  many : (node k n : ℕ) → length (marks_from node k n) ≡ n
  unfolding marks_from
  many node k zero = refl
  many node k (suc n) = ap suc (many node (k + 1) n)

  marks_tell : (node k : ℕ) → (slice_get (marks_from node 0 (length (waits_at nodes node))) k ≡ Some true) ↔ IsSpare nodes node k
  marks_tell node k =
      let same : 0 + k ≡ k = omega arith in
      let back : k ≡ 0 + k = omega arith in (
        λ set. subst (IsSpare nodes node) same (marked_is node 0 (length (waits_at nodes node)) k set),
        λ s. is_marked node 0 (length (waits_at nodes node)) k (slice_get_within (waits_at nodes node) k s.event s.listed)
            (subst (IsSpare nodes node) back s),
      )

  list_up_to : (n : ℕ) → n ≤ length nodes → (list : List ListedWait) × AreUpTo nodes n list
  list_up_to zero within = ([], none_yet nodes)
  list_up_to (suc n) within =
      let so_far = list_up_to n (omega (arith, within)) in
      let next : n + 1 ≡ suc n = omega arith in
      let marks = marks_from n 0 (length (waits_at nodes n)) in
      let list = so_far.0 ++ marked n 0 marks in
      let more = node_more nodes n so_far.0 marks (omega (arith, within)) (many n 0 (length (waits_at nodes n))) so_far.1 (marks_tell n) in
      (list, subst (λ m. AreUpTo nodes m list) next more)

  -- The list of the spare waits.
  pub spare_list : (list : List ListedWait) × AreSpareWaits nodes list
  spare_list = let all = list_up_to (length nodes) (omega arith) in (all.0, finished nodes (length nodes) all.0 all.0 all.1 refl refl)
