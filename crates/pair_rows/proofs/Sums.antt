-- Sums over items, of counts.
use Rattle.std.proofs.Common.{◌≡◌, ℕ, zero, suc, ◌+◌, ◌*◌, ◌^◌, ◌<◌, ◌≤◌, ◌&&◌, nat_lt, inl, inr, false, List, [], ◌∷◌, ◌++◌, get_or, refl, sym, ap, ◌∙◌, arith, length, min}
use Rattle.std.proofs.lemmas.Bool.{cases_lt, cases_order, le-ltb, and_right}
use Rattle.std.proofs.lemmas.Nat.{mul-le}
use Rattle.pair_rows.specs.declared.users.User.{User}
use Rattle.bit_words.specs.Bits.{has_bit}
use Rattle.pair_rows.specs.Counting.{sum_below}
use Rattle.pair_rows.specs.Meetings.{later_in_row, later_met, met_at_some, met_below, row_bit}
use Rattle.pair_rows.proofs.Counts.{count_same, count_none, count_small, count_split, count_beyond, count_start}

pub sum_same : (f g : ℕ → ℕ) (n : ℕ) → ((k : ℕ) → k < n → f k ≡ g k) → sum_below f n ≡ sum_below g n
sum_same f g zero h = refl
sum_same f g (suc n) h = let r = sum_same f g n (λ k lt. h k (omega (arith, lt))) in let l = h n (omega arith) in omega (arith, r, l)

sum_plus : (f g h : ℕ → ℕ) (n : ℕ) → ((k : ℕ) → h k ≡ f k + g k) → sum_below h n ≡ sum_below f n + sum_below g n
sum_plus f g h zero e = refl
sum_plus f g h (suc n) e = let r = sum_plus f g h n e in let l = e n in omega (arith, r, l)

sum_beyond : (f : ℕ → ℕ) (m n : ℕ) → m ≤ n → ((k : ℕ) → m ≤ k → f k ≡ 0) → sum_below f n ≡ sum_below f m
sum_beyond f m zero le h = let is : m ≡ 0 = omega (arith, le) in ap (sum_below f) (sym is)
sum_beyond f m (suc n) le h = elim (cases_order m (suc n)) [
  | inl same ↦ ap (sum_below f) (sym same)
  | inr (inl lt) ↦ let r = sum_beyond f m n (omega (arith, lt)) h in let z = h n (omega (arith, lt)) in omega (arith, r, z)
  | inr (inr gt) ↦ absurd (omega (arith, gt, le))
]

sum_small : (f : ℕ → ℕ) (n m : ℕ) → ((k : ℕ) → f k ≤ m) → sum_below f n ≤ n * m
sum_small f zero m h = omega arith
sum_small f (suc n) m h = let r = sum_small f n m h in let l = h n in let e : suc n * m ≡ n * m + m = grind (arith) in
    omega (arith, r, l, e)

pub few : (places : List (List User)) (bound items : ℕ) → items < 2 ^ 32 → bound < 2 ^ 32
    → sum_below (met_below places bound) items < 2 ^ 64
few places bound items lt less =
    let s = sum_small (met_below places bound) items bound (λ a. count_small (λ b. nat_lt a b && met_at_some places a b) bound) in
    let m = mul-le items bound 4294967295 4294967295 (omega (arith, lt)) (omega (arith, less)) in
    omega (arith, s, m)

-- A block more.
pub met_more : (places : List (List User)) (base items : ℕ) → sum_below (met_below places (base + 1024)) items ≡ sum_below
    (met_below places base) items + sum_below (later_met places base) items
met_more places base items = sum_plus (met_below places base) (later_met places base) (met_below places (base + 1024)) items
    (λ a. count_split (λ b. nat_lt a b && met_at_some places a b) base 1024)

-- No item is beyond the last.
pub met_all : (places : List (List User)) (base items : ℕ) → items ≤ base → ((a b : ℕ) → items ≤ b → met_at_some places a b ≡ false)
    → sum_below (met_below places base) items ≡ sum_below (met_below places items) items
met_all places base items le none = sum_same (met_below places base) (met_below places items) items
    (λ a lt. count_beyond (λ b. nat_lt a b && met_at_some places a b) items base le
    (λ b more. and_right (nat_lt a b) (met_at_some places a b) (none a b more)))

-- The rows of a block, of which later items have none.
pub block_is : (places : List (List User)) (rows : List (List ℕ)) (base items n : ℕ) → n ≡ min items (base + 1024)
    → ((a i : ℕ) → a < n → i < 1024 → row_bit rows a i ≡ met_at_some places a (base + i))
    → sum_below (λ a. later_in_row (get_or rows a []) a base) n ≡ sum_below (later_met places base) items
block_is places rows base items n e bits =
    sum_same (λ a. later_in_row (get_or rows a []) a base) (later_met places base) n
    (λ a lt. count_same (λ i. nat_lt a (base + i) && has_bit (get_or rows a []) i)
    (λ i. nat_lt a (base + i) && met_at_some places a (base + i)) 1024
    (λ i less. ap (λ z. nat_lt a (base + i) && z) (bits a i lt less)))
    ∙ elim (cases_lt n items) [
      | inl less ↦ sym (sum_beyond (later_met places base) n items (omega (arith, less))
          (λ a le. count_none (λ i. nat_lt a (base + i) && met_at_some places a (base + i)) 1024
          (λ i lt. ap (λ z. z && met_at_some places a (base + i)) (le-ltb a (base + i) (omega (arith, le, lt, e, less))))))
      | inr not_less ↦ ap (sum_below (later_met places base)) (omega (arith, e, not_less))
    ]

pub sum_none : (places : List (List User)) (n : ℕ) → 0 ≡ sum_below (met_below places 0) n
sum_none places zero = refl
sum_none places (suc n) = let r = sum_none places n in let z = count_start (λ b. nat_lt n b && met_at_some places n b) in
    omega (arith, r, z)

-- ---- rows without a bit

abbrev pub AreEmpty : List (List ℕ) → Type 0
AreEmpty rows = (a i : ℕ) → a < length rows → i < 1024 → row_bit rows a i ≡ false
