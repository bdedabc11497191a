-- Which elements stand before a place, and which from it on.
use Rattle.std.proofs.Common.{◌≡◌, ◌↔◌, ℕ, ◌+◌, ◌-◌, ◌<◌, ◌≤◌, nat_lt, true, false, List, Contains, length, get_or, take, drop, sym, ap, subst, ◌∙◌, inl, inr, arith}
use Rattle.std.specs.List.Sorted.{IsPartitionPoint}
use Rattle.std.proofs.lemmas.Bool.{cases_lt, ltb-true, ltb-false}
use Rattle.std.proofs.lemmas.List.{length-take, length-drop, get_or-take, get_or-drop}

abbrev pub IsParted : {X : Type 0} → (X → ℕ) → ℕ → List X → ℕ → Type 0
IsParted n t xs i = IsPartitionPoint (λ x. nat_lt (n x) t ≡ true) (λ x. nat_lt (n x) t ≡ false) xs i

pub in_front : {X : Type 0} (n : X → ℕ) (t : ℕ) (xs : List X) (i : ℕ) → IsParted n t xs i → (x : X)
    → Contains (take i xs) x ↔ (Contains xs x × (n x < t))
in_front n t xs i parts x = (
  λ h.
      let k = h.0 in
      let low : k < i = omega (arith, h.1, length-take i xs) in
      let high : k < length xs = omega (arith, h.1, length-take i xs) in
      let is : get_or xs k x ≡ x = sym (get_or-take i xs k x low) ∙ h.2 in
      ((k, high, is), subst (λ y. n y < t) is (ltb-true _ _ (parts.0 k x (omega arith) low))),
  λ h.
      let k = h.0.0 in
      let high = h.0.1 in
      elim (cases_lt k i) [
        | inl low ↦ (k, omega (arith, low, high, length-take i xs), get_or-take i xs k x low ∙ h.0.2)
        | inr far ↦ let le : t ≤ n (get_or xs k x) = ltb-false _ _ (parts.1 k x far high) in
            absurd (omega (arith, h.1, subst (λ y. t ≤ n y) h.0.2 le))
      ],
)

pub in_back : {X : Type 0} (n : X → ℕ) (t : ℕ) (xs : List X) (i : ℕ) → IsParted n t xs i → (x : X)
    → Contains (drop i xs) x ↔ (Contains xs x × (t ≤ n x))
in_back n t xs i parts x = (
  λ h.
      let k = i + h.0 in
      let far : i ≤ k = omega arith in
      let high : k < length xs = omega (arith, h.1, length-drop i xs) in
      let is : get_or xs k x ≡ x = sym (get_or-drop i xs h.0 x) ∙ h.2 in
      ((k, high, is), subst (λ y. t ≤ n y) is (ltb-false _ _ (parts.1 k x far high))),
  λ h.
      let k = h.0.0 in
      let high = h.0.1 in
      elim (cases_lt k i) [
        | inl low ↦ let lt : n (get_or xs k x) < t = ltb-true _ _ (parts.0 k x (omega arith) low) in
            absurd (omega (arith, h.1, subst (λ y. n y < t) h.0.2 lt))
        | inr far ↦
            let at : i + (k - i) ≡ k = omega (arith, far) in
            (k - i, omega (arith, far, high, length-drop i xs), get_or-drop i xs (k - i) x ∙ ap (λ j. get_or xs j x) at ∙ h.0.2)
      ],
)
