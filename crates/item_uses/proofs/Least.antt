-- The least of some places.
use Rattle.std.proofs.Common.{◌≡◌, ◌≤◌, inl, inr, Bool, true, false, List, [], ◌∷◌, ◌++◌, ap, arith, Option, Some, None, refl, Contains}
use Rattle.std.proofs.lemmas.Bool.Decides.{nat_tests}
use Rattle.vocabulary.specs.Prelude.{Place, least_of, lesser, comes_first}
use Rattle.std.proofs.lemmas.List.Elements.{Contains-append_cases, Contains-append_left, Contains-append_right}
use Rattle.list_lemmas.proofs.lemmas.Contained.{Contains-nil, Contains-here, Contains-later, Contains-cases, only}
use Rattle.item_uses.specs.Sharing.{lesser_place}

abbrev pub first : Place → Place → Bool
first p q = comes_first (p.tree, p.point, p.field) (q.tree, q.point, q.field)

pub first_itself : (p : Place) → first p p ≡ false
first_itself p = grind (arith, nat_tests)

pub first_both : (p q : Place) → first p q ≡ false → first q p ≡ false → p ≡ q
first_both p q a b = grind (arith, nat_tests)

pub first_chain : (p q r : Place) → first q p ≡ false → first r q ≡ false → first r p ≡ false
first_chain p q r a b = grind (arith, nat_tests)

pub first_one_way : (p q : Place) → first p q ≡ true → first q p ≡ false
first_one_way p q a = grind (arith, nat_tests)

-- A place with numbers no greater is not after.
pub not_behind : (p q : Place) → p.tree ≡ q.tree → p.point ≤ q.point → p.field ≤ q.field → first q p ≡ false
not_behind p q a b c = grind (arith, nat_tests)

-- The least of some places.
abbrev pub IsLeastPlace : List Place → Option Place → Type 0
IsLeastPlace ps (Some p) = Contains ps p × ((q : Place) → Contains ps q → first q p ≡ false)
IsLeastPlace ps None = (q : Place) → Contains ps q → ⊥

pub place_is_least : (ps : List Place) → IsLeastPlace ps (least_of ps)
place_is_least [] = λ q m. Contains-nil m
place_is_least (p ∷ ps) = more p (least_of ps) ps (place_is_least ps)
  where
    pick : (p q : Place) (ps : List Place) → IsLeastPlace ps (Some q) → (b : Bool) → first q p ≡ b
        → IsLeastPlace (p ∷ ps) (Some (lesser p (Some q)))
    pick p q ps h true e = rw e (
      Contains-later ps h.0,
      λ r m. elim (Contains-cases ps m) [
        | inl is ↦ rw is (first_one_way q p e)
        | inr later ↦ h.1 r later
      ],
    )
    pick p q ps h false e = rw e (
      Contains-here ps,
      λ r m. elim (Contains-cases ps m) [
        | inl is ↦ rw is (first_itself p)
        | inr later ↦ first_chain p q r e (h.1 r later)
      ],
    )

    more : (p : Place) (o : Option Place) (ps : List Place) → IsLeastPlace ps o → IsLeastPlace (p ∷ ps) (Some (lesser p o))
    more p None ps h = (
      Contains-here ps,
      λ r m. elim (Contains-cases ps m) [
        | inl is ↦ rw is (first_itself p)
        | inr later ↦ absurd (h r later)
      ],
    )
    more p (Some q) ps h = pick p q ps h (first q p) refl

-- Two lists have one least place where each place of the one is in the other, and none of the other is before all of the one.
pub least_same : (ps qs : List Place) → ((q : Place) → Contains qs q → Contains ps q)
    → ((p : Place) → Contains ps p → (q : Place) × Contains qs q × (first p q ≡ false)) → least_of ps ≡ least_of qs
least_same ps qs within below = same (least_of ps) (least_of qs) (place_is_least ps) (place_is_least qs)
  where
    same : (o r : Option Place) → IsLeastPlace ps o → IsLeastPlace qs r → o ≡ r
    same None None h k = refl
    same None (Some q) h k = absurd (h q (within q k.0))
    same (Some p) None h k = let b = below p h.0 in absurd (k b.0 b.1)
    same (Some p) (Some q) h k =
        let b = below p h.0 in
        ap (λ x. Some x) (first_both p q (first_chain q b.0 p (k.1 b.0 b.1) b.2) (h.1 q (within q k.0)))

pub least_append : (ps qs : List Place) → least_of (ps ++ qs) ≡ lesser_place (least_of ps) (least_of qs)
least_append ps qs = joined (least_of ps) (least_of qs) (place_is_least ps) (place_is_least qs)
  where
    joined : (o r : Option Place) → IsLeastPlace ps o → IsLeastPlace qs r → least_of (ps ++ qs) ≡ lesser_place o r
    joined None None h k = least_same (ps ++ qs) [] (λ q m. absurd (Contains-nil m))
        (λ p m. absurd (elim (Contains-append_cases ps qs p m) [ inl l ↦ h p l | inr r ↦ k p r ]))
    joined None (Some q) h k = least_same (ps ++ qs) (q ∷ [])
        (λ p m. rw (only m) (Contains-append_right ps qs q k.0))
        (λ p m. elim (Contains-append_cases ps qs p m) [ inl l ↦ absurd (h p l) | inr r ↦ (q, Contains-here [], k.1 p r) ])
    joined (Some p) None h k = least_same (ps ++ qs) (p ∷ [])
        (λ x m. rw (only m) (Contains-append_left ps qs p h.0))
        (λ x m. elim (Contains-append_cases ps qs x m) [ inl l ↦ (p, Contains-here [], h.1 x l) | inr r ↦ absurd (k x r) ])
    joined (Some p) (Some q) h k = least_same (ps ++ qs) (p ∷ q ∷ [])
        (λ x m. elim (Contains-cases (q ∷ []) m) [
          | inl is ↦ rw is (Contains-append_left ps qs p h.0)
          | inr last ↦ rw (only last) (Contains-append_right ps qs q k.0)
        ])
        (λ x m. elim (Contains-append_cases ps qs x m) [
          | inl l ↦ (p, Contains-here (q ∷ []), h.1 x l)
          | inr r ↦ (q, Contains-later (q ∷ []) (Contains-here []), k.1 x r)
        ])
