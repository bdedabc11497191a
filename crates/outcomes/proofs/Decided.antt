-- What can be told: of a fact, whether it holds or fails; and whether a node is before another, where no node is stuck.
use Rattle.std.proofs.Common.{◌≡◌, ℕ, ◌<◌, ◌⊎◌, inl, inr, Bool, true, false, List, [], ◌∷◌, ◌++◌, length, refl, sym, ◌∙◌, subst, append_assoc, Contains, slice_get, nat_lt}
use Rattle.std.proofs.lemmas.Bool.{cases_Bool, cases_eq, true≢false, false_from_ne_true, lt-ltb, ltb-true}
use Rattle.std.proofs.lemmas.Option.{none-some, same_Some, slice_get_within}
use Rattle.vocabulary.specs.Prelude.{is_in, Node, WaitsOn, IsChain, Before}
use Rattle.log_laws.proofs.lemmas.Members.{member_in, is_in_of}
use Rattle.std.proofs.lemmas.List.Elements.{Contains-append_cases}
use Rattle.list_lemmas.proofs.lemmas.Contained.{only, Contains-here, Contains-later, Contains-nil, Contains-cases}
use Rattle.list_lemmas.proofs.lemmas.Firsts.{cases_option}

-- A fact holds, or it fails.
abbrev pub IsDecided : Type 0 → Type 0
IsDecided A = A ⊎ (A → ⊥)

pub both_told : (A B : Type 0) → IsDecided A → IsDecided B → IsDecided (A × B)
both_told A B (inl a) (inl b) = inl (a, b)
both_told A B (inl a) (inr fails) = inr (λ p. fails p.1)
both_told A B (inr fails) b = inr (λ p. fails p.0)

pub either_told : (A B : Type 0) → IsDecided A → IsDecided B → IsDecided (A ⊎ B)
either_told A B (inl a) b = inl (inl a)
either_told A B (inr fails) (inl b) = inl (inr b)
either_told A B (inr fails) (inr fails_too) = inr (λ o. elim o [ inl a ↦ fails a | inr b ↦ fails_too b ])

pub failing_told : (A : Type 0) → IsDecided A → IsDecided (A → ⊥)
failing_told A (inl a) = inr (λ fails. fails a)
failing_told A (inr fails) = inl fails

pub test_told : (b : Bool) → IsDecided (b ≡ true)
test_told b = elim (cases_Bool b) [ inl is ↦ inl is | inr other ↦ inr (λ is. true≢false (sym is ∙ other)) ]

pub less_told : (a b : ℕ) → IsDecided (a < b)
less_told a b = elim (test_told (nat_lt a b)) [ inl is ↦ inl (ltb-true a b is) | inr other ↦ inr (λ lt. other (lt-ltb a b lt)) ]

-- Some element of a list passes, or none does.
pub some_or_none : {X : Type 0} (P : X → Type 0) (xs : List X) → ((x : X) → Contains xs x → IsDecided (P x)) → ((x : X) × Contains xs x × P x)
    ⊎ ((x : X) → Contains xs x → P x → ⊥)
some_or_none P [] tell = inr (λ x m holds. absurd (Contains-nil m))
some_or_none P (x ∷ xs) tell = elim (tell x (Contains-here xs)) [
  | inl holds ↦ inl (x, Contains-here xs, holds)
  | inr fails ↦ elim (some_or_none P xs (λ y m. tell y (Contains-later xs m))) [
    | inl later ↦ inl (later.0, Contains-later xs later.1, later.2)
    | inr none ↦ inr (λ y m holds. elim (Contains-cases xs m) [ inl is ↦ fails (subst P is holds) | inr later ↦ none y later holds ])
  ]
]

-- Of those that pass there is a least, or none passes.
module _ {X : Type 0} (less : X → X → Bool) (never : (x : X) → less x x ≡ false) (along : (x y z : X) → less x y ≡ true → less y z ≡ true
    → less x z ≡ true) (P : X → Type 0) (tell : (x : X) → IsDecided (P x)) where
  -- A least one of a list that passes.
  pub record IsLeast (xs : List X) (x : X) : Type 0 where
    pub listed : Contains xs x
    pub passes : P x
    pub least : (y : X) → Contains xs y → P y → less y x ≡ false

  first_is_least : (x : X) (xs : List X) → P x → ((y : X) → Contains xs y → P y → less y x ≡ false) → IsLeast (x ∷ xs) x
  first_is_least x xs holds later = record {
    listed = Contains-here xs;
    passes = holds;
    least = λ y m passes. elim (Contains-cases xs m) [ inl is ↦ subst (λ z. less z x ≡ false) (sym is) (never x) | inr after ↦ later y after passes ];
  }

  later_is_least : (x : X) (xs : List X) (l : X) → IsLeast xs l → (P x → less x l ≡ false) → IsLeast (x ∷ xs) l
  later_is_least x xs l is_least first = record {
    listed = Contains-later xs is_least.listed;
    passes = is_least.passes;
    least = λ y m passes. elim (Contains-cases xs m) [
      | inl is ↦ subst (λ z. less z l ≡ false) (sym is) (first (subst P is passes))
      | inr after ↦
          is_least.least y after passes
    ];
  }

  pub least_or_none : (xs : List X) → ((x : X) × IsLeast xs x) ⊎ ((x : X) → Contains xs x → P x → ⊥)
  least_or_none [] = inr (λ x m holds. absurd (Contains-nil m))
  least_or_none (x ∷ xs) = elim (tell x) [
    | inr fails ↦ elim (least_or_none xs) [
      | inl l ↦ inl (l.0, later_is_least x xs l.0 l.1 (λ holds. absurd (fails holds)))
      | inr none ↦ inr (λ y m holds. elim (Contains-cases xs m) [ inl is ↦ fails (subst P is holds) | inr later ↦ none y later holds ])
    ]
    | inl holds ↦ elim (least_or_none xs) [
      | inr none ↦ inl (x, first_is_least x xs holds (λ y m passes. absurd (none y m passes)))
      | inl l ↦ elim (cases_Bool (less x l.0)) [
        | inl is ↦ inl (
          x,
          first_is_least x xs holds
              (λ y m passes. false_from_ne_true (less y x) (λ e. true≢false (sym (along y x l.0 e is) ∙ l.1.least y m passes))),
        )
        | inr other ↦ inl (l.0, later_is_least x xs l.0 l.1 (λ _. other))
      ]
    ]
  ]

-- ---- nodes

pub waits_told : (nodes : List Node) (later earlier : ℕ) → IsDecided (WaitsOn nodes later earlier)
waits_told nodes later earlier = elim (cases_option (slice_get nodes earlier)) [
  | inl none ↦ inr (λ w. none-some w.on (sym none ∙ w.on_is))
  | inr on ↦ elim (cases_option (slice_get nodes later)) [
    | inl none ↦ inr (λ w. none-some w.by (sym none ∙ w.by_is))
    | inr by ↦ elim (cases_Bool (is_in by.0.waits on.0.done)) [
      | inl lists ↦ inl (record {
        on = on.0;
        by = by.0;
        on_is = on.1;
        by_is = by.1;
        listed =
            (member_in by.0.waits on.0.done lists);
      })
      | inr other ↦ inr (λ w.
          let on_same : w.on ≡ on.0 = same_Some _ _ (sym w.on_is ∙ on.1) in
          let by_same : w.by ≡ by.0 = same_Some _ _ (sym w.by_is ∙ by.1) in
          let own = subst (λ (b : Node). Contains b.waits w.on.done) by_same w.listed in
          let lists = is_in_of by.0.waits on.0.done (subst (λ (n : Node). Contains by.0.waits n.done) on_same own) in
          true≢false (sym lists ∙ other))
    ]
  ]
]

module _ (nodes : List Node) where
  -- The last wait of a chain.
  pub last_wait : (a b : ℕ) (between : List ℕ) → IsChain nodes a between b → (j : ℕ) × WaitsOn nodes b j × ((a ≡ j) ⊎ Before nodes a j)
  last_wait a b [] waits = (a, waits, inl refl)
  last_wait a b (next ∷ between) chain =
      let rest = last_wait next b between chain.1 in (
        rest.0,
        rest.1,
        inr (elim rest.2 [
          | inl is ↦ ([], subst (λ j. WaitsOn nodes j a) is chain.0)
          | inr before ↦
              (next ∷ before.0, (chain.0, before.1))
        ]),
      )

  longer : (a j b : ℕ) (between : List ℕ) → IsChain nodes a between j → WaitsOn nodes b j → IsChain nodes a (between ++ j ∷ []) b
  longer a j b [] first last = (first, last)
  longer a j b (next ∷ between) chain last = (chain.0, longer next j b between chain.1 last)

  before_by : (a j b : ℕ) → (a ≡ j) ⊎ Before nodes a j → WaitsOn nodes b j → Before nodes a b
  before_by a j b (inl is) last = ([], subst (WaitsOn nodes b) (sym is) last)
  before_by a j b (inr before) last = (before.0 ++ j ∷ [], longer a j b before.0 before.1 last)

  module _ (order : List ℕ)
      (behind : (front : List ℕ) (k : ℕ) (back : List ℕ) → order ≡ front ++ k ∷ back → (j : ℕ) → WaitsOn nodes k j → Contains front j)
      (whole : (k : ℕ) → k < length nodes → Contains order k) (a : ℕ) where
    next_told : (front : List ℕ) (k : ℕ) (back : List ℕ) → order ≡ front ++ k ∷ back → ((j : ℕ) → Contains front j → IsDecided (Before nodes a j))
        → IsDecided (Before nodes a k)
    next_told front k back is so_far =
        let By : ℕ → Type 0 = λ j. WaitsOn nodes k j × ((a ≡ j) ⊎ Before nodes a j) in
        elim (some_or_none By front (λ j m. both_told _ _ (waits_told nodes k j) (either_told _ _ (cases_eq a j) (so_far j m)))) [
          | inl some ↦ inl (before_by a some.0 k some.2.1 some.2.0)
          | inr none ↦ inr (λ before.
              let last = last_wait a k before.0 before.1 in
              none last.0 (behind front k back is last.0 last.1) (last.1, last.2))
        ]

    told_along : (front rest : List ℕ) → order ≡ front ++ rest → ((j : ℕ) → Contains front j → IsDecided (Before nodes a j)) → (k : ℕ)
        → Contains rest k → IsDecided (Before nodes a k)
    told_along front [] is so_far k m = absurd (Contains-nil m)
    told_along front (n ∷ rest) is so_far k m =
        let here = next_told front n rest is so_far in
        elim (Contains-cases rest m) [
          | inl same ↦ subst (λ j. IsDecided (Before nodes a j)) (sym same) here
          | inr later ↦ told_along (front ++ n ∷ []) rest (is ∙ sym (append_assoc front (n ∷ []) rest))
              (λ j at. elim (Contains-append_cases front (n ∷ []) j at) [
                | inl before ↦ so_far j before
                | inr last ↦
                    subst (λ j. IsDecided (Before nodes a j)) (sym (only last)) here
              ]) k later
        ]

    -- Whether a node is before another.
    pub before_told : (b : ℕ) → IsDecided (Before nodes a b)
    before_told b = elim (cases_Bool (is_in order b)) [
      | inl listed ↦ told_along [] order refl (λ j m. absurd (Contains-nil m)) b (member_in order b listed)
      | inr other ↦ inr (λ before.
          let last = last_wait a b before.0 before.1 in
          let within = slice_get_within nodes b last.1.by last.1.by_is in
          true≢false (sym (is_in_of order b (whole b within)) ∙ other))
    ]
