-- There is one list of the spare waits of a graph.
use Rattle.std.proofs.Common.{◌≡◌, ◌↔◌, List, [], ◌∷◌, inl, inr, refl, sym, ap, ◌∙◌, subst, arith, Contains, AllPairs}
use Rattle.list_lemmas.proofs.lemmas.Pairs.{AllPairs-first, AllPairs-rest}
use Rattle.list_lemmas.proofs.lemmas.Contained.{Contains-here, Contains-nil, Contains-cases}
use Rattle.vocabulary.specs.Prelude.{Node, ListedWait}
use Rattle.list_lemmas.proofs.lemmas.Parts.{left_out_same}
use Rattle.semantics.specs.Spare.{IsAhead, AreSpareWaits}

not_both : (v w : ListedWait) → IsAhead v w → IsAhead w v → ⊥
not_both v w (inl a) (inl b) = omega (arith, a, b)
not_both v w (inl a) (inr b) = omega (arith, a, b.0)
not_both v w (inr a) (inl b) = omega (arith, a.0, b)
not_both v w (inr a) (inr b) = omega (arith, a.1, b.1)

in_one_order : (vs ws : List ListedWait) → AllPairs IsAhead vs → AllPairs IsAhead ws → ((w : ListedWait) → Contains vs w ↔ Contains ws w)
    → vs ≡ ws
in_one_order [] [] a b same = refl
in_one_order [] (w ∷ ws) a b same = absurd (Contains-nil ((same w).1 (Contains-here ws)))
in_one_order (v ∷ vs) [] a b same = absurd (Contains-nil ((same v).0 (Contains-here vs)))
in_one_order (v ∷ vs) (w ∷ ws) a b same =
    let first : v ≡ w = elim (Contains-cases ws ((same v).0 (Contains-here vs))) [
      | inl is ↦ is
      | inr later ↦ elim (Contains-cases vs ((same w).1 (Contains-here ws))) [
        | inl is ↦ sym is
        | inr after ↦ absurd (not_both v w (AllPairs-first IsAhead v vs a w after) (AllPairs-first IsAhead w ws b v later))
      ]
    ] in
    let b_here : AllPairs IsAhead (v ∷ ws) = subst (λ x. AllPairs IsAhead (x ∷ ws)) (sym first) b in
    let same_here : (x : ListedWait) → Contains (v ∷ vs) x ↔ Contains (v ∷ ws) x =
    λ x. subst (λ y. Contains (v ∷ vs) x ↔ Contains (y ∷ ws) x) (sym first) (same x) in
    let rest = left_out_same IsAhead (λ x h. not_both x x h h) v vs [] ws a b_here same_here in
    ap (λ xs. v ∷ xs) (in_one_order vs ws (AllPairs-rest IsAhead v vs a) (AllPairs-rest IsAhead w ws b) rest) ∙ ap (λ x. x ∷ ws) first

pub one_list : (nodes : List Node) (vs ws : List ListedWait) → AreSpareWaits nodes vs → AreSpareWaits nodes ws → vs ≡ ws
one_list nodes vs ws a b = in_one_order vs ws a.in_order b.in_order
    (λ w. (λ m. (b.each w).1 ((a.each w).0 m), λ m. (a.each w).1 ((b.each w).0 m)))
