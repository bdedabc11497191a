-- Two neighbours in an interleaving, neither of which has to be taken before the other, may change places.
use Rattle.std.proofs.Common.{List, [], ◌∷◌, ◌++◌, inl, inr, sym, subst, Contains, AllPairs}
use Rattle.std.proofs.lemmas.List.Elements.{Contains-append_left, Contains-append_right, Contains-append_cases}
use Rattle.list_lemmas.proofs.lemmas.Contained.{Contains-cases, Contains-first, Contains-later}
use Rattle.vocabulary.specs.Prelude.{Tables, Step, IsInterleaving, AreUnordered}
use Rattle.list_lemmas.proofs.lemmas.Pairs.{AllPairs-append, AllPairs-parts, AllPairs-first, AllPairs-rest, AllPairs-put}
use Rattle.log_laws.proofs.lemmas.StepLists.{MayFollow}

swapped_member : {X : Type 0} (front : List X) (x y : X) (back : List X) (e : X) → Contains (front ++ x ∷ y ∷ back) e
    → Contains (front ++ y ∷ x ∷ back) e
swapped_member front x y back e m = elim (Contains-append_cases front (x ∷ y ∷ back) e m) [
  | inl before ↦ Contains-append_left front (y ∷ x ∷ back) e before
  | inr rest ↦
      Contains-append_right front (y ∷ x ∷ back) e
      (elim (Contains-cases (y ∷ back) rest) [
        | inl first ↦ Contains-later (x ∷ back) (Contains-first back first)
        | inr later ↦ elim (Contains-cases back later) [
          | inl second ↦ Contains-first (x ∷ back) second
          | inr behind ↦ Contains-later (x ∷ back) (Contains-later back behind)
        ]
      ])
]

swapped_pairs : {X : Type 0} (R : X → X → Type 0) (front : List X) (x y : X) (back : List X) → R y x → AllPairs R (front ++ x ∷ y ∷ back)
    → AllPairs R (front ++ y ∷ x ∷ back)
swapped_pairs R front x y back turned h =
    let parts = AllPairs-parts R front (x ∷ y ∷ back) h in
    let rest = AllPairs-rest R x (y ∷ back) parts.1 in
    AllPairs-append R front (y ∷ x ∷ back) parts.0
    (AllPairs-put R y (x ∷ back) (λ z m. elim (Contains-cases back m) [
      | inl is ↦ subst (R y) (sym is) turned
      | inr later ↦ AllPairs-first R y back rest z later
    ]) (AllPairs-put R x back (λ z m. AllPairs-first R x (y ∷ back) parts.1 z (Contains-later back m)) (AllPairs-rest R y back rest)))
    (λ a b m n. parts.2 a b m (swapped_member [] y x back b n))

module _ (t : Tables) where
  in_turn : (xs : List Step) → IsInterleaving t xs → AllPairs (MayFollow t) xs
  in_turn xs a = (λ i j d lt within. (a.once i j d lt within, a.in_order i j d lt within))

  pub swapped : (front : List Step) (x y : Step) (back : List Step) → AreUnordered t x y → IsInterleaving t (front ++ x ∷ y ∷ back)
      → IsInterleaving t (front ++ y ∷ x ∷ back)
  swapped front x y back free a =
      let xs = front ++ x ∷ y ∷ back in
      let ys = front ++ y ∷ x ∷ back in
      let pairs = (swapped_pairs (MayFollow t) front x y back (λ e. free.differ (sym e), free.not_before)
      (in_turn xs a)) in
      record {
        once = λ i j d lt within. (pairs i j d lt within).0;
        in_log = λ e c. a.in_log e (swapped_member front y x back e c);
        whole = λ e c. (swapped_member front x y back e (a.whole e c));
        in_order = λ i j d lt within. (pairs i j d lt within).1;
      }
