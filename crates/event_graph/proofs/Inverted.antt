-- Orders of numbers, and the places in them.
use Rattle.std.proofs.Common.{◌≡◌, ◌≢◌, ℕ, ◌<◌, ◌==◌, List, length, get_or, Some, slice_get, Contains, All, AllPairs, arith, refl, sym, ap, ◌∙◌, subst, inl, inr, zero-add}
use Rattle.std.proofs.lemmas.Bool.{eq-eqb, ne_eqb, eqb-true}
use Rattle.std.specs.List.{position_from}
use Rattle.std.proofs.lemmas.List.{get_or_default}
use Rattle.std.proofs.lemmas.Option.{same_Some, slice_get-get_or, slice_get_within, get_or_from_slice_get}
use Rattle.list_lemmas.proofs.lemmas.Firsts.{cases_option}
use Rattle.list_lemmas.proofs.lemmas.Parts.{few}
use Rattle.event_graph.specs.Inverse.{AreInverse}
use Rattle.event_graph.proofs.lemmas.Placed.{stands, finds}

module _ (count : ℕ) (nodes places : List ℕ) (within : All (λ n. n < count) nodes) (apart : AllPairs (λ m n. m ≢ n) nodes) (whole : (n : ℕ)
    → n < count → Contains nodes n)
    (each : length places ≡ count) (placed : (p : ℕ) → p < length nodes → get_or places (get_or nodes p 0) 0 ≡ p) where
  place_of : (n : ℕ) → n < count → (get_or places n 0 < length nodes) × (get_or nodes (get_or places n 0) 0 ≡ n)
  place_of n lt =
      let at = whole n lt in
      let is : get_or nodes at.0 0 ≡ n = get_or_default nodes at.0 0 n at.1 ∙ at.2 in
      let place : get_or places n 0 ≡ at.0 = ap (λ k. get_or places k 0) (sym is) ∙ placed at.0 at.1 in
      (omega (arith, place, at.1), ap (λ k. get_or nodes k 0) place ∙ is)

  places_apart : AllPairs (λ a b. a ≢ b) places
  places_apart i j d lt less e =
      let a = place_of i (omega (arith, lt, less, each)) in
      let b = place_of j (omega (arith, less, each)) in
      let same : get_or places i 0 ≡ get_or places j 0 =
      get_or_default places i 0 d (omega (arith, lt, less)) ∙ (e ∙ sym (get_or_default places j 0 d less)) in
      omega (arith, lt, sym a.1 ∙ (ap (λ k. get_or nodes k 0) same ∙ b.1))

  as_many : length places ≡ length nodes
  as_many =
      let one = few nodes count apart (λ n m. let c = m in
      subst (λ k. k < count) c.2 (within c.0 n c.1)) in
      let other = few places (length nodes) places_apart (λ p m. let c = m in
      let at = place_of c.0 (omega (arith, c.1, each)) in
      subst (λ k. k < length nodes) (get_or_default places c.0 0 p c.1 ∙ c.2) at.0) in
      omega (arith, one, other, each)

  pub inverse : AreInverse nodes places
  inverse = record {
    each = as_many;
    there = λ p n at.
        let lt = slice_get_within places n p at in
        let h = place_of n (omega (arith, lt, each)) in
        let place : get_or places n 0 ≡ p = get_or_from_slice_get places n p 0 at in
        slice_get-get_or nodes p 0 (omega (arith, h.0, place)) ∙ ap (λ k. Some k) (ap (λ k. get_or nodes k 0) (sym place) ∙ h.1);
    back = λ p n at.
        let lt = slice_get_within nodes p n at in
        let is : get_or nodes p 0 ≡ n = get_or_from_slice_get nodes p n 0 at in
        let place : get_or places n 0 ≡ p = ap (λ k. get_or places k 0) (sym is) ∙ placed p lt in
        let less : n < count = subst (λ k. k < count) is (within p 0 lt) in
        slice_get-get_or places n 0 (omega (arith, less, each)) ∙ ap (λ k. Some k) place;
  }

-- A list's places, looked up in one step.
pub found_place : (nodes places : List ℕ) → AreInverse nodes places → (n : ℕ) → slice_get places n ≡ position_from (λ m. m == n) 0 nodes
found_place nodes places h n = elim (cases_option (slice_get places n)) [
  | inl none ↦ none ∙ sym (elim (cases_option (position_from (λ m. m == n) 0 nodes)) [
    | inl same ↦ same
    | inr some ↦
        let r = stands (λ m. m == n) 0 nodes some.0 some.1 in
        let there = h.back r.0 n (r.3 ∙ ap (λ m. Some m) (eqb-true r.1 n r.4)) in
        let bad = sym none ∙ there in absurd cc
  ])
  | inr some ↦
      let at = h.there some.0 n some.1 in
      some.1 ∙ sym (finds (λ m. m == n) 0 nodes some.0 n at (eq-eqb n n refl) (λ q m lt is. ne_eqb m n (λ same.
      let again = h.back q n (is ∙ ap (λ k. Some k) same) in
      let bad = same_Some q some.0 (sym again ∙ some.1) in omega (arith, lt, bad))) ∙ ap (λ k. Some k) (zero-add some.0))
]
