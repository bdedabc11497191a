-- Places of a list's fields, and whether it has a field.
use Rattle.std.proofs.Common.{◌≡◌, ℕ, ◌+◌, ◌<◌, inl, inr, true, List, [], ◌∷◌, ◌++◌, Contains, map, length, take, get_or, sym, ap, ◌∙◌, subst, arith}
use Rattle.std.specs.List.Sorted.{IsStrictlyIncreasing}
use Rattle.std.proofs.lemmas.Bool.{cases_Bool, cases_lt, false_from_ne_true, true≢false}
use Rattle.std.proofs.lemmas.List.{get_or_default, map-append, take_more}
use Rattle.std.proofs.lemmas.List.Kept.{AllPairs-from_increasing}
use Rattle.vocabulary.specs.Prelude.{is_in}
use Rattle.list_lemmas.proofs.lemmas.Contained.{map_member, member_map}
use Rattle.log_laws.proofs.lemmas.Members.{is_in_of, member_in}
use Rattle.field_kinds.specs.Places.{ArePlaces}

-- Of ascending fields no two are the same.
one_place : (fields : List ℕ) (i j : ℕ) → IsStrictlyIncreasing fields → i < length fields → j < length fields
    → get_or fields i 0 ≡ get_or fields j 0 → i ≡ j
one_place fields i j ascend in_i in_j same = elim (cases_lt i j) [
  | inl less ↦ let lt = AllPairs-from_increasing fields ascend i j 0 less in_j in absurd (omega (arith, lt, same))
  | inr no_less ↦
      elim (cases_lt j i) [
        | inl more ↦ let lt = AllPairs-from_increasing fields ascend j i 0 more in_i in absurd (omega (arith, lt, same))
        | inr no_more ↦ omega (arith, no_less, no_more)
      ]
]

-- Where a field of a list that has places stands.
place_of : (list fields places : List ℕ) → ArePlaces list fields places → (f : ℕ) → is_in list f ≡ true
    → (k : ℕ) × Contains places k × (k < length fields) × (f ≡ get_or fields k 0)
place_of list fields places are f has =
    let in_list = subst (λ fs. Contains fs f) (sym are.each) (member_in list f has) in
    let m = member_map (λ place. get_or fields place 0) places f in_list in
    let lt = are.within m.1.0 m.0 m.1.1 in
    (m.0, m.1, subst (λ p. p < length fields) m.1.2 lt, m.2)

-- A list has the field at a place just where the place is among those of the list.
pub place_in : (list fields places : List ℕ) → IsStrictlyIncreasing fields → ArePlaces list fields places
    → (i : ℕ) → i < length fields → is_in places i ≡ is_in list (get_or fields i 0)
place_in list fields places ascend are i within = elim (cases_Bool (is_in list (get_or fields i 0))) [
  | inl has ↦
      let at = place_of list fields places are (get_or fields i 0) has in
      let same = one_place fields i at.0 ascend within at.2 at.3 in
      is_in_of places i (subst (Contains places) (sym same) at.1) ∙ sym has
  | inr lacks ↦ false_from_ne_true (is_in places i) (λ is. true≢false (sym (listed (member_in places i is)) ∙ lacks)) ∙ sym lacks
]
  where
    listed : Contains places i → is_in list (get_or fields i 0) ≡ true
    listed c = is_in_of list (get_or fields i 0)
        (subst (λ fs. Contains fs (get_or fields i 0)) are.each (map_member (λ place. get_or fields place 0) places i c))

-- Each field of a list that has places is one of all.
pub placed : (list fields places : List ℕ) → ArePlaces list fields places → (f : ℕ) → is_in list f ≡ true → Contains fields f
placed list fields places are f has =
    let at = place_of list fields places are f has in
    (at.0, at.2, get_or_default fields at.0 f 0 at.2 ∙ sym at.3)

-- One element more.
pub mapped_more : {X Y : Type 0} (f : X → Y) (xs : List X) (i : ℕ) (x : X) → i < length xs → x ≡ get_or xs i x
    → map f (take (i + 1) xs) ≡ map f (take i xs) ++ f x ∷ []
mapped_more f xs i x within is =
    ap (map f) (take_more xs i x within) ∙ map-append f (take i xs) (get_or xs i x ∷ [])
    ∙ ap (λ y. map f (take i xs) ++ f y ∷ []) (sym is)
