-- What stands at the place of an item in serial order.
use Rattle.std.proofs.Common.{◌≡◌, ℕ, suc, ◌+◌, ◌<◌, ◌==◌, inl, inr, List, [], ◌∷◌, length, refl, sym, ap, ◌∙◌, arith, slice_index, Contains, false}
use Rattle.std.specs.List.{position_or_len}
use Rattle.std.proofs.lemmas.Bool.{cases_Bool, eqb-true, eq-eqb, true≢false}
use Rattle.list_lemmas.proofs.lemmas.Contained.{Contains-nil, Contains-cases}
use Rattle.vocabulary.specs.Prelude.{Tables}
use Rattle.semantics.specs.SerialOrder.{serial, serial_place}
use Rattle.list_lemmas.proofs.lemmas.Parts.{place_len}
use Rattle.order_laws.specs.Turns.{ListsItems}

abbrev place_in : List ℕ → ℕ → ℕ
place_in xs n = position_or_len (λ i. i == n) xs

-- A member that is not the first is a later one.
pub behind : (x : ℕ) (xs : List ℕ) (n : ℕ) → (x == n) ≡ false → Contains (x ∷ xs) n → Contains xs n
behind x xs n other m = elim (Contains-cases xs m) [
  | inl is ↦ absurd (true≢false (sym (eq-eqb x n (sym is)) ∙ other))
  | inr later ↦ later
]

at_place : (xs : List ℕ) (n : ℕ) → Contains xs n → slice_index xs (place_in xs n) ≡ n
at_place [] n m = absurd (Contains-nil m)
at_place (x ∷ xs) n m = elim (cases_Bool (x == n)) [
  | inl at ↦ rw at (eqb-true x n at)
  | inr other ↦
      let later = behind x xs n other m in
      let next : place_in (x ∷ xs) n ≡ suc (place_in xs n) = (let h : place_in (x ∷ xs) n ≡ 1 + place_in xs n = rw other refl in
      omega (arith, h)) in
      ap (slice_index (x ∷ xs)) next ∙ at_place xs n later
]

-- It is the item.
pub item_at : (t : Tables) → ListsItems t → (a : ℕ) → a < length t.items → slice_index (serial t) (serial_place t a) ≡ a
item_at t lists a lt =
    ap (slice_index (serial t)) (place_len (λ i. i == a) (serial t))
    ∙ at_place (serial t) a ((lists.items a).1 lt)

place_within : (xs : List ℕ) (n : ℕ) → Contains xs n → place_in xs n < length xs
place_within [] n m = absurd (Contains-nil m)
place_within (x ∷ xs) n m = elim (cases_Bool (x == n)) [
  | inl at ↦ let h : place_in (x ∷ xs) n ≡ 0 = rw at refl in omega (arith, h)
  | inr other ↦
      let later = behind x xs n other m in
      let h : place_in (x ∷ xs) n ≡ 1 + place_in xs n = rw other refl in
      let r = place_within xs n later in
      omega (arith, h, r)
]

-- There is such a place.
pub serial_place_within : (t : Tables) → ListsItems t → (a : ℕ) → a < length t.items → serial_place t a < length (serial t)
serial_place_within t lists a lt =
    let e = place_len (λ i. i == a) (serial t) in
    let w = place_within (serial t) a ((lists.items a).1 lt) in
    omega (arith, e, w)
