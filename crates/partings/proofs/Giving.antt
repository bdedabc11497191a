-- Numbers that are given in place of others.
use Rattle.std.proofs.Common.{◌≡◌, ◌≢◌, ◌↔◌, ◌⊎◌, inl, inr, ℕ, ◌+◌, ◌<◌, ◌≤◌, true, false, ◌==◌, List, [], ◌∷◌, ◌++◌, length, take, get_or, set, ◌||◌, Option, Some, refl, sym, ap, ◌∙◌, subst, arith}
use Rattle.std.specs.List.Sorted.{IsStrictlyIncreasing}
use Rattle.std.proofs.Math.Bool.{or-false, or-true}
use Rattle.std.proofs.lemmas.Bool.{true≢false, cases_Bool, cases_eq, eq-eqb, ne_eqb}
use Rattle.std.proofs.lemmas.List.{length-set, length-take-le, get_or-take, get_or_default, get_or-set_same, get_or-set_other}
use Rattle.std.proofs.lemmas.List.Folds.{list_any-append, list_any_none}
use Rattle.std.proofs.lemmas.List.Kept.{AllPairs-from_increasing}
use Rattle.std.proofs.lemmas.Option.{same_Some}
use Rattle.vocabulary.specs.Prelude.{is_in}
use Rattle.partings.specs.Parted.{IsGiven, IsParted}

-- No two are the same, and they are no less than `low` and below `end`.
pub record AreGiven (low end : ℕ) (given : ℕ → Option ℕ) : Type 0 where
  pub within : (a x : ℕ) → given a ≡ Some x → (low ≤ x) × (x < end)
  pub apart : (a b x : ℕ) → given a ≡ Some x → given b ≡ Some x → a ≡ b

-- Numbers as they are once those at some places were given others.
pub record AreSoFar (places : List ℕ) (low end : ℕ) (given : ℕ → Option ℕ) (old new : List ℕ) : Type 0 where
  pub each : length new ≡ length old
  pub given_are : AreGiven low end given
  pub done : (i : ℕ) → i < length old → is_in places i ≡ true → given (get_or old i 0) ≡ Some (get_or new i 0)
  pub rest : (i : ℕ) → is_in places i ≡ false → get_or new i 0 ≡ get_or old i 0

pub parted_by : (places : List ℕ) (low end : ℕ) (given : ℕ → Option ℕ) (old new : List ℕ)
    → ((i : ℕ) → i < length old → get_or old i 0 < low) → AreSoFar places low end given old new → IsParted (is_in places) old new
parted_by places low end given old new below so = record {
  each = so.each;
  parted = λ i j in_i in_j. at i j in_i in_j (cases_Bool (is_in places i)) (cases_Bool (is_in places j));
}
  where
    high : (i : ℕ) → i < length old → is_in places i ≡ true → low ≤ get_or new i 0
    high i within e = (so.given_are.within (get_or old i 0) (get_or new i 0) (so.done i within e)).0

    at : (i j : ℕ) → i < length old → j < length old → (is_in places i ≡ true) ⊎ (is_in places i ≡ false)
        → (is_in places j ≡ true) ⊎ (is_in places j ≡ false)
        → (get_or new i 0 ≡ get_or new j 0) ↔ ((get_or old i 0 ≡ get_or old j 0) × (is_in places i ≡ is_in places j))
    at i j in_i in_j (inl a) (inl b) = (
      λ e. (so.given_are.apart (get_or old i 0) (get_or old j 0) (get_or new j 0) (so.done i in_i a ∙ ap (λ x. Some x) e) (so.done j in_j b), a ∙ sym b),
      λ h. same_Some (get_or new i 0) (get_or new j 0) (sym (so.done i in_i a) ∙ (ap given h.0 ∙ so.done j in_j b)),
    )
    at i j in_i in_j (inr a) (inr b) =
        (λ e. (sym (so.rest i a) ∙ (e ∙ so.rest j b), a ∙ sym b), λ h. so.rest i a ∙ (h.0 ∙ sym (so.rest j b)))
    at i j in_i in_j (inl a) (inr b) = (
      λ e. let hi = high i in_i a in let lo = below j in_j in let is = so.rest j b in absurd (omega (arith, e, hi, lo, is)),
      λ h. absurd (true≢false (sym a ∙ (h.1 ∙ b))),
    )
    at i j in_i in_j (inr a) (inl b) = (
      λ e. let hi = high j in_j b in let lo = below i in_i in let is = so.rest i a in absurd (omega (arith, e, hi, lo, is)),
      λ h. absurd (true≢false (sym b ∙ (sym h.1 ∙ a))),
    )

-- One number more is given.
pub given_more : (low end : ℕ) (old new : ℕ → Option ℕ) (number one : ℕ) → low ≤ end → AreGiven low end old → IsGiven old new number end one
    → AreGiven low (end + 1) new
given_more low end old new number one le h is = record {
  within = λ a x e. near a x e (cases_eq a number);
  apart = λ a b x e f. both a b x e f (cases_eq a number) (cases_eq b number);
}
  where
    at_one : (x : ℕ) → new number ≡ Some x → one ≡ x
    at_one x e = same_Some one x (sym is.is ∙ e)

    of_one : (low ≤ one) × (one < end + 1)
    of_one = elim is.kept [
      | inl had ↦ let w = h.within number one had in (w.0, omega (arith, w.1))
      | inr fresh ↦ (omega (arith, le, fresh.1), omega (arith, fresh.1))
    ]

    near : (a x : ℕ) → new a ≡ Some x → (a ≡ number) ⊎ (a ≢ number) → (low ≤ x) × (x < end + 1)
    near a x e (inl here) = subst (λ x. (low ≤ x) × (x < end + 1)) (at_one x (ap new (sym here) ∙ e)) of_one
    near a x e (inr other) = let w = h.within a x (sym (is.others a other) ∙ e) in (w.0, omega (arith, w.1))

    -- No other number has the one that is given now.
    alone : (a : ℕ) → a ≢ number → new a ≡ Some one → a ≡ number
    alone a other e = let had = sym (is.others a other) ∙ e in elim is.kept [
      | inl same ↦ h.apart a number one had same
      | inr fresh ↦ let w = h.within a one had in absurd (omega (arith, w.1, fresh.1))
    ]

    both : (a b x : ℕ) → new a ≡ Some x → new b ≡ Some x → (a ≡ number) ⊎ (a ≢ number) → (b ≡ number) ⊎ (b ≢ number) → a ≡ b
    both a b x e f (inl i) (inl j) = i ∙ sym j
    both a b x e f (inl i) (inr j) = i ∙ sym (alone b j (f ∙ ap (λ y. Some y) (sym (at_one x (ap new (sym i) ∙ e)))))
    both a b x e f (inr i) (inl j) = alone a i (e ∙ ap (λ y. Some y) (sym (at_one x (ap new (sym j) ∙ f)))) ∙ sym j
    both a b x e f (inr i) (inr j) = h.apart a b x (sym (is.others a i) ∙ e) (sym (is.others b j) ∙ f)

in_other : (ns : List ℕ) (n m : ℕ) → m ≢ n → is_in (ns ++ n ∷ []) m ≡ is_in ns m
in_other ns n m other =
    list_any-append (λ k. k == m) ns (n ∷ [])
    ∙ ap (λ b. is_in ns m || (b || false)) (ne_eqb n m (λ is. other (sym is)))
    ∙ or-false (is_in ns m)

in_last : (ns : List ℕ) (n : ℕ) → is_in (ns ++ n ∷ []) n ≡ true
in_last ns n = list_any-append (λ k. k == n) ns (n ∷ []) ∙ ap (λ b. is_in ns n || (b || false)) (eq-eqb n n refl) ∙ or-true (is_in ns n)

-- The number at one place more is given another.
pub so_more : (before : List ℕ) (place low end : ℕ) (given more : ℕ → Option ℕ) (old now : List ℕ) (one : ℕ) → low ≤ end
    → place < length old → is_in before place ≡ false → AreSoFar before low end given old now
    → IsGiven given more (get_or now place 0) end one
    → AreSoFar (before ++ place ∷ []) low (end + 1) more old (set now place one)
so_more before place low end given more old now one le within new so is = record {
  each = length-set now place one ∙ so.each;
  given_are = given_more low end given more (get_or now place 0) one le so.given_are is;
  done = λ i in_i e. done i in_i e (cases_eq i place);
  rest = λ i e. rest i e (cases_eq i place);
}
  where
    was : get_or now place 0 ≡ get_or old place 0
    was = so.rest place new

    kept : (a x : ℕ) → given a ≡ Some x → (a ≡ get_or now place 0) ⊎ (a ≢ get_or now place 0) → more a ≡ Some x
    kept a x e (inr other) = is.others a other ∙ e
    kept a x e (inl same) = elim is.kept [
      | inl had ↦ ap more same ∙ (is.is ∙ (sym had ∙ (ap given (sym same) ∙ e)))
      | inr fresh ↦ let bad = sym fresh.0 ∙ (ap given (sym same) ∙ e) in absurd cc
    ]

    done : (i : ℕ) → i < length old → is_in (before ++ place ∷ []) i ≡ true → (i ≡ place) ⊎ (i ≢ place)
        → more (get_or old i 0) ≡ Some (get_or (set now place one) i 0)
    done i in_i e (inl here) = ap (λ k. more (get_or old k 0)) here ∙ (ap more (sym was) ∙ (is.is ∙ ap (λ x. Some x)
        (sym (ap (λ k. get_or (set now place one) k 0) here ∙ get_or-set_same now place one 0 (omega (arith, within, so.each))))))
    done i in_i e (inr other) =
        let had = so.done i in_i (sym (in_other before place i other) ∙ e) in
        kept (get_or old i 0) (get_or now i 0) had (cases_eq (get_or old i 0) (get_or now place 0))
        ∙ ap (λ x. Some x) (sym (get_or-set_other now place i one 0 other))

    rest : (i : ℕ) → is_in (before ++ place ∷ []) i ≡ false → (i ≡ place) ⊎ (i ≢ place) → get_or (set now place one) i 0 ≡ get_or old i 0
    rest i e (inl here) = absurd (true≢false (sym (in_last before place) ∙ (ap (is_in (before ++ place ∷ [])) (sym here) ∙ e)))
    rest i e (inr other) = get_or-set_other now place i one 0 other ∙ so.rest i (sym (in_other before place i other) ∙ e)

-- Numbers are below the end of those that are given.
pub below_end : (places : List ℕ) (low end : ℕ) (given : ℕ → Option ℕ) (old new : List ℕ)
    → ((i : ℕ) → i < length old → get_or old i 0 < low) → low ≤ end → AreSoFar places low end given old new
    → (i : ℕ) → i < length new → get_or new i 0 < end
below_end places low end given old new below le so i within = elim (cases_Bool (is_in places i)) [
  | inl passes ↦ (so.given_are.within (get_or old i 0) (get_or new i 0) (so.done i (omega (arith, within, so.each)) passes)).1
  | inr fails ↦ let lo = below i (omega (arith, within, so.each)) in let is = so.rest i fails in omega (arith, lo, is, le)
]

-- No number of an ascending list stands before it.
pub not_before : (places : List ℕ) (k : ℕ) → IsStrictlyIncreasing places → k < length places
    → is_in (take k places) (get_or places k 0) ≡ false
not_before places k ascend within = list_any_none (λ p. p == get_or places k 0) (take k places) (λ i d lt.
    let i_before = lt_take i lt in
    let less = AllPairs-from_increasing places ascend i k 0 i_before within in
    let is = get_or-take k places i d i_before in
    let same = get_or_default places i d 0 (omega (arith, i_before, within)) in
    ne_eqb (get_or (take k places) i d) (get_or places k 0) (λ e. omega (arith, e, less, is, same)))
  where
    lt_take : (i : ℕ) → i < length (take k places) → i < k
    lt_take i lt = let len = length-take-le k places (omega (arith, within)) in omega (arith, lt, len)
