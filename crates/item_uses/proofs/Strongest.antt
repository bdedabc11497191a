-- The strongest of some kinds.
use Rattle.std.proofs.Common.{◌≡◌, inl, inr, List, [], ◌∷◌, ◌++◌, refl, sym, ap, ◌∙◌, subst, Contains}
use Rattle.list_lemmas.proofs.lemmas.Contained.{Contains-nil, Contains-here, Contains-later, Contains-cases}
use Rattle.vocabulary.specs.Prelude.{Kind, stronger, strongest}
use Rattle.privilege.specs.declared.kinds.Kind.TheVariants.{Free, Turn, Before}

abbrev pub AtMost : Kind → Kind → Type 0
AtMost j k = stronger j k ≡ k

pub at_most_itself : (k : Kind) → AtMost k k
at_most_itself Free = refl
at_most_itself Turn = refl
at_most_itself Before = refl

pub commutes : (j k : Kind) → stronger j k ≡ stronger k j
commutes Free Free = refl
commutes Free Turn = refl
commutes Free Before = refl
commutes Turn Free = refl
commutes Turn Turn = refl
commutes Turn Before = refl
commutes Before Free = refl
commutes Before Turn = refl
commutes Before Before = refl

pub associates : (j k l : Kind) → stronger (stronger j k) l ≡ stronger j (stronger k l)
associates Free k l = refl
associates Turn Free l = refl
associates Turn Turn Free = refl
associates Turn Turn Turn = refl
associates Turn Turn Before = refl
associates Turn Before l = refl
associates Before k l = refl

pub left_at_most : (j k : Kind) → AtMost j (stronger j k)
left_at_most j k = sym (associates j j k) ∙ ap (λ i. stronger i k) (at_most_itself j)

pub at_most_trans : (j k l : Kind) → AtMost j k → AtMost k l → AtMost j l
at_most_trans j k l p q = ap (stronger j) (sym q) ∙ sym (associates j k l) ∙ ap (λ i. stronger i l) p ∙ q

pub at_most_both : (j k : Kind) → AtMost j k → AtMost k j → j ≡ k
at_most_both j k p q = sym q ∙ commutes k j ∙ p

pub below_strongest : (ks : List Kind) (k : Kind) → Contains ks k → AtMost k (strongest ks)
below_strongest [] k m = absurd (Contains-nil m)
below_strongest (j ∷ ks) k m = elim (Contains-cases ks m) [
  | inl is ↦ subst (λ i. AtMost i (stronger j (strongest ks))) (sym is) (left_at_most j (strongest ks))
  | inr later ↦ at_most_trans k (strongest ks) (stronger j (strongest ks)) (below_strongest ks k later)
      (subst (AtMost (strongest ks)) (commutes (strongest ks) j) (left_at_most (strongest ks) j))
]

pub strongest_below : (ks : List Kind) (k : Kind) → ((j : Kind) → Contains ks j → AtMost j k) → AtMost (strongest ks) k
strongest_below [] k h = refl
strongest_below (j ∷ ks) k h = associates j (strongest ks) k
    ∙ ap (stronger j) (strongest_below ks k (λ i m. h i (Contains-later ks m))) ∙ h j (Contains-here ks)

pub strongest_same : (js ks : List Kind) → ((j : Kind) → Contains js j → AtMost j (strongest ks))
    → ((k : Kind) → Contains ks k → AtMost k (strongest js)) → strongest js ≡ strongest ks
strongest_same js ks one other = at_most_both (strongest js) (strongest ks) (strongest_below js (strongest ks) one)
    (strongest_below ks (strongest js) other)

pub strongest_append : (js ks : List Kind) → strongest (js ++ ks) ≡ stronger (strongest js) (strongest ks)
strongest_append [] ks = refl
strongest_append (j ∷ js) ks = ap (stronger j) (strongest_append js ks) ∙ sym (associates j (strongest js) (strongest ks))

pub only_free : (k : Kind) → AtMost k Free → k ≡ Free
only_free k h = sym (commutes k Free) ∙ h

pub last_free : (k : Kind) → stronger k Free ≡ k
last_free k = commutes k Free
