-- Rows whose keys have ascending numbers, and the places of keys among them.
use Rattle.std.proofs.Common.{◌≡◌, ℕ, zero, suc, ◌+◌, ◌-◌, ◌<◌, ◌≤◌, Bool, true, false, List, [], ◌∷◌, ◌++◌, ◌⊎◌, drop, length, get_or, Some, None, slice_get, subst, refl, sym, ap, ◌∙◌, inl, inr, arith}
use Rattle.std.specs.List.{position_from}
use Rattle.std.proofs.lemmas.Bool.{cases_Bool, cases_lt, false≢true, ltb-true, ltb-false, lt-ltb}
use Rattle.std.proofs.lemmas.Option.{none-some, same_Some, slice_get-get_or, slice_get_within}
use Rattle.std.specs.List.Sorted.{IsPartitionPoint, IsPartitionedBy}
use Rattle.std.proofs.lemmas.List.{get_or-drop, length-drop}
use Rattle.log_tables.specs.Noted.{AreAscending, AreNumbered, is_below}

-- the place of what passes, where nothing else does
only_at : {X : Type 0} (p : X → Bool) (k i : ℕ) (x : X) (xs : List X) → slice_get xs i ≡ Some x → p x ≡ true
    → ((j : ℕ) (y : X) → slice_get xs j ≡ Some y → p y ≡ true → j ≡ i) → position_from p k xs ≡ Some (k + i)
only_at p k i x [] at hit only = absurd (none-some x at)
only_at p k zero x (y ∷ ys) at hit only =
    let z : k ≡ k + 0 = omega arith in rw (ap p (same_Some y x at) ∙ hit) (ap (λ n. Some n) z)
only_at p k (suc i) x (y ∷ ys) at hit only = elim (cases_Bool (p y)) [
  | inl first ↦ let e : 0 ≡ suc i = only 0 y refl first in absurd (omega (arith, e))
  | inr miss ↦
      let z : k + 1 + i ≡ k + suc i = omega arith in
      rw miss (only_at p (k + 1) i x ys at hit (λ j z at' hit'. let e : suc j ≡ suc i = only (suc j) z at' hit' in omega (arith, e))
      ∙ ap (λ n. Some n) z)
]

-- nothing passes
none_at : {X : Type 0} (p : X → Bool) (k : ℕ) (xs : List X) → ((j : ℕ) (y : X) → slice_get xs j ≡ Some y → p y ≡ true → ⊥)
    → position_from p k xs ≡ None
none_at p k [] none = refl
none_at p k (y ∷ ys) none = elim (cases_Bool (p y)) [
  | inl hit ↦ absurd (none 0 y refl hit)
  | inr miss ↦ rw miss (none_at p (k + 1) ys (λ j z. none (suc j) z))
]

-- what stands in some rows and one more
one_more : {X : Type 0} (rows : List X) (row x : X) (i : ℕ) → slice_get (rows ++ row ∷ []) i ≡ Some x
    → (slice_get rows i ≡ Some x) ⊎ ((i ≡ length rows) × (x ≡ row))
one_more [] row x zero at = inr (refl, sym (same_Some row x at))
one_more [] row x (suc i) at = absurd (none-some x at)
one_more (y ∷ ys) row x zero at = inl at
one_more (y ∷ ys) row x (suc i) at = elim (one_more ys row x i at) [
  | inl before ↦ inl before
  | inr last ↦ inr (ap suc last.0, last.1)
]

-- with a row whose number is beyond the last, they ascend still
pub ascending_more : {K T : Type 0} (number_of : K → ℕ) (key_of : T → K) (rows : List T) (k : ℕ) (last row : T)
    → AreAscending number_of key_of rows → slice_get rows k ≡ Some last → k + 1 ≡ length rows
    → number_of (key_of last) < number_of (key_of row) → AreAscending number_of key_of (rows ++ row ∷ [])
ascending_more number_of key_of rows k last row ascend there end beyond i j x y lt at_i at_j = elim (one_more rows row y j at_j) [
  | inl later ↦ elim (one_more rows row x i at_i) [
    | inl earlier ↦ ascend i j x y lt earlier later
    | inr e ↦ let within = slice_get_within rows j y later in absurd (omega (arith, lt, e.0, within))
  ]
  | inr e ↦ elim (one_more rows row x i at_i) [
    | inl earlier ↦
        let within = slice_get_within rows i x earlier in
        let up : number_of (key_of x) < number_of (key_of row) = elim (cases_lt i k) [
          | inl before ↦ let less = ascend i k x last before earlier there in omega (arith, less, beyond)
          | inr past ↦
              let same : i ≡ k = omega (arith, past, within, end) in
              let one : x ≡ last = same_Some x last (sym earlier ∙ ap (slice_get rows) same ∙ there) in
              rw one beyond
        ] in
        rw e.1 up
    | inr f ↦ absurd (omega (arith, lt, e.0, f.0))
  ]
]

module _ {K T : Type 0} (eq : K → K → Bool) (number_of : K → ℕ) (key_of : T → K)
    (alike : (a b : K) → eq a b ≡ true → number_of a ≡ number_of b) where
  -- a row with a key stands at the place that the number of the key tells
  row_at : (rows : List T) (first i : ℕ) (row : T) (key : K) → AreNumbered number_of key_of first rows → slice_get rows i ≡ Some row
      → eq (key_of row) key ≡ true → number_of key ≡ first + i
  row_at rows first i row key numbered at hit = sym (alike (key_of row) key hit) ∙ numbered i row at

  pub at_place : (rows : List T) (i : ℕ) (row : T) → i < length rows → row ≡ get_or rows i row → slice_get rows i ≡ Some row
  at_place rows i row lt is = slice_get-get_or rows i row lt ∙ ap (λ x. Some x) (sym is)

  pub found_there : (rows : List T) (first place : ℕ) (row : T) (key : K) → AreNumbered number_of key_of first rows → place < length rows
      → row ≡ get_or rows place row → eq (key_of row) key ≡ true → Some place ≡ position_from (λ x. eq (key_of x) key) 0 rows
  found_there rows first place row key numbered lt is hit =
      let at : slice_get rows place ≡ Some row = at_place rows place row lt is in
      let here : number_of key ≡ first + place = row_at rows first place row key numbered at hit in
      let z : place ≡ 0 + place = omega arith in
      ap (λ n. Some n) z
      ∙ sym (only_at (λ x. eq (key_of x) key) 0 place row rows at hit (λ j y at' hit'.
      let there : number_of key ≡ first + j = row_at rows first j y key numbered at' hit' in omega (arith, here, there)))

  -- no row has it, where its number is below all, or behind all, or the row there has another key
  pub found_below : (rows : List T) (first : ℕ) (key : K) → AreNumbered number_of key_of first rows → (first ≤ number_of key → ⊥)
      → None ≡ position_from (λ x. eq (key_of x) key) 0 rows
  found_below rows first key numbered below = sym (none_at (λ x. eq (key_of x) key) 0 rows (λ i row at hit.
      let here : number_of key ≡ first + i = row_at rows first i row key numbered at hit in below (omega (arith, here))))

  pub found_behind : (rows : List T) (first place : ℕ) (key : K) → AreNumbered number_of key_of first rows
      → number_of key ≡ first + place → length rows ≤ place → None ≡ position_from (λ x. eq (key_of x) key) 0 rows
  found_behind rows first place key numbered is past = sym (none_at (λ x. eq (key_of x) key) 0 rows (λ i row at hit.
      let here : number_of key ≡ first + i = row_at rows first i row key numbered at hit in
      let lt : i < length rows = slice_get_within rows i row at in
      let no : ⊥ = omega (arith, is, here, lt, past) in no))

  pub found_other : (rows : List T) (first place : ℕ) (row : T) (key : K) → AreNumbered number_of key_of first rows
      → number_of key ≡ first + place → place < length rows → row ≡ get_or rows place row → eq (key_of row) key ≡ false
      → None ≡ position_from (λ x. eq (key_of x) key) 0 rows
  found_other rows first place row key numbered is lt at miss = sym (none_at (λ x. eq (key_of x) key) 0 rows (λ i other at' hit.
      let here : number_of key ≡ first + i = row_at rows first i other key numbered at' hit in
      let same : i ≡ place = omega (arith, is, here) in
      let one : other ≡ row = same_Some other row (sym at' ∙ ap (slice_get rows) same ∙ at_place rows place row lt at) in
      false≢true (sym miss ∙ ap (λ x. eq (key_of x) key) (sym one) ∙ hit)))

  -- a row with a key stands alone where numbers ascend
  alone : (rows : List T) (i j : ℕ) (x y : T) (key : K) → AreAscending number_of key_of rows → slice_get rows i ≡ Some x
      → slice_get rows j ≡ Some y → eq (key_of x) key ≡ true → eq (key_of y) key ≡ true → j ≡ i
  alone rows i j x y key ascend at_i at_j hit_i hit_j =
      let a = alike (key_of x) key hit_i in
      let b = alike (key_of y) key hit_j in
      elim (cases_lt i j) [
        | inl lt ↦ let less = ascend i j x y lt at_i at_j in absurd (omega (arith, less, a, b))
        | inr le ↦ elim (cases_lt j i) [
          | inl lt ↦ let less = ascend j i y x lt at_j at_i in absurd (omega (arith, less, a, b))
          | inr ge ↦ omega (arith, le, ge)
        ]
      ]

  pub found_by_search : (rows : List T) (place : ℕ) (row : T) (key : K) → AreAscending number_of key_of rows → place < length rows
      → row ≡ get_or rows place row → eq (key_of row) key ≡ true → Some place ≡ position_from (λ x. eq (key_of x) key) 0 rows
  found_by_search rows place row key ascend lt is hit =
      let at : slice_get rows place ≡ Some row = at_place rows place row lt is in
      let z : place ≡ 0 + place = omega arith in
      ap (λ n. Some n) z ∙ sym (only_at (λ x. eq (key_of x) key) 0 place row rows at hit (λ j y at' hit'.
      alone rows place j row y key ascend at at' hit hit'))

  -- rows can be searched by their numbers
  pub can_search : (rows : List T) (number : ℕ) → AreAscending number_of key_of rows → IsPartitionedBy (is_below number_of key_of number) rows
  can_search rows number ascend i j d le lt below = elim (cases_lt i j) [
    | inl before ↦
        let at_i : slice_get rows i ≡ Some (get_or rows i d) = slice_get-get_or rows i d (omega (arith, before, lt)) in
        let at_j : slice_get rows j ≡ Some (get_or rows j d) = slice_get-get_or rows j d lt in
        let less = ascend i j (get_or rows i d) (get_or rows j d) before at_i at_j in
        let up = ltb-true (number_of (key_of (get_or rows j d))) number below in
        lt-ltb (number_of (key_of (get_or rows i d))) number (omega (arith, less, up))
    | inr past ↦ let same : i ≡ j = omega (arith, le, past) in rw same below
  ]

  pub can_search_recent : (rows : List T) (from number : ℕ) → AreAscending number_of key_of rows
      → IsPartitionedBy (is_below number_of key_of number) (drop from rows)
  can_search_recent rows from number ascend i j d le lt below =
      let within = length-drop from rows in
      subst (λ (x : T). is_below number_of key_of number x ≡ true) (sym (get_or-drop from rows i d))
      (can_search rows number ascend (from + i) (from + j) d (omega (arith, le)) (omega (arith, lt, within))
      (subst (λ (x : T). is_below number_of key_of number x ≡ true) (get_or-drop from rows j d) below))

  -- where a row is below, what a search finds behind it is found in all
  pub parted_recent : (rows : List T) (from k number : ℕ) (row : T) → AreAscending number_of key_of rows → slice_get (drop from rows) 0 ≡ Some row
      → is_below number_of key_of number row ≡ true
      → IsPartitionPoint (λ x. is_below number_of key_of number x ≡ true) (λ x. is_below number_of key_of number x ≡ false) (drop from rows) k
      → IsPartitionPoint (λ x. is_below number_of key_of number x ≡ true) (λ x. is_below number_of key_of number x ≡ false) rows (from + k)
  parted_recent rows from k number row ascend there low parts =
      let some = slice_get_within (drop from rows) 0 row there in
      let size = length-drop from rows in
      let within : from < length rows = omega (arith, some, size) in
      let z : from ≡ from + 0 = omega arith in
      let here : (d : T) → get_or rows from d ≡ row = λ d. ap (λ n. get_or rows n d) z ∙ sym (get_or-drop from rows 0 d)
      ∙ same_Some (get_or (drop from rows) 0 d) row (sym (slice_get-get_or (drop from rows) 0 d some) ∙ there) in
      let moved : (m : ℕ) (d : T) (b : Bool) → from ≤ m → is_below number_of key_of number (get_or (drop from rows) (m - from) d) ≡ b
      → is_below number_of key_of number (get_or rows m d) ≡ b = λ m d b le is.
      let e : from + (m - from) ≡ m = omega (arith, le) in
      subst (λ n. is_below number_of key_of number (get_or rows n d) ≡ b) e
      (subst (λ (x : T). is_below number_of key_of number x ≡ b) (get_or-drop from rows (m - from) d) is) in (
        λ m d least lt. elim (cases_lt m from) [
          | inl before ↦ can_search rows number ascend m from d (omega (arith, before)) within (ap (is_below number_of key_of number) (here d) ∙ low)
          | inr past ↦ moved m d true past (parts.0 (m - from) d (omega arith) (omega (arith, past, lt)))
        ],
        λ m d least lt. let past : from ≤ m = omega (arith, least) in
            moved m d false past (parts.1 (m - from) d (omega (arith, least)) (omega (arith, lt, past, size))),
      )

  -- no row has a key, where that at the place which a search finds has not
  pub none_by_search : (rows : List T) (place number : ℕ) (key : K) → AreAscending number_of key_of rows → number ≡ number_of key
      → IsPartitionPoint (λ x. is_below number_of key_of number x ≡ true) (λ x. is_below number_of key_of number x ≡ false) rows place
      → ((row : T) → slice_get rows place ≡ Some row → eq (key_of row) key ≡ false)
      → None ≡ position_from (λ x. eq (key_of x) key) 0 rows
  none_by_search rows place number key ascend of_key parts miss = sym (none_at (λ x. eq (key_of x) key) 0 rows (λ j y at hit.
      let same = alike (key_of y) key hit in
      let within : j < length rows = slice_get_within rows j y at in
      let is : get_or rows j y ≡ y = same_Some (get_or rows j y) y (sym (slice_get-get_or rows j y within) ∙ at) in
      elim (cases_lt j place) [
        | inl before ↦
            let below = ltb-true (number_of (key_of (get_or rows j y))) number (parts.0 j y (omega arith) before) in
            let n = ap (λ (x : T). number_of (key_of x)) is in
            absurd (omega (arith, below, n, same, of_key))
        | inr past ↦ elim (cases_lt place j) [
          | inl after ↦
              let there : place < length rows = omega (arith, after, within) in
              let at_p : slice_get rows place ≡ Some (get_or rows place y) = slice_get-get_or rows place y there in
              let less = ascend place j (get_or rows place y) y after at_p at in
              let not_below = ltb-false (number_of (key_of (get_or rows place y))) number (parts.1 place y (omega arith) there) in
              absurd (omega (arith, less, not_below, same, of_key))
          | inr le ↦
              let e : j ≡ place = omega (arith, past, le) in
              absurd (false≢true (sym (miss y (ap (slice_get rows) (sym e) ∙ at)) ∙ hit))
        ]
      ]))
