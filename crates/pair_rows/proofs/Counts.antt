-- Counts of numbers that pass, and of bits.
use Rattle.std.proofs.Common.{◌≡◌, ℕ, zero, suc, ◌+◌, ◌-◌, ◌*◌, ◌/◌, ◌%◌, ◌^◌, ◌<◌, ◌≤◌, ◌==◌, ◌&&◌, nat_lt, inl, inr, Bool, false, List, get_or, refl, sym, ap, ◌∙◌, arith, if◌then◌else◌, add-one}
use Rattle.std.specs.Int.{bit_at}
use Rattle.std.specs.Int.Count.{ones_in}
use Rattle.std.specs.Int.Count as counts
use Rattle.std.proofs.lemmas.Bool.{cases_Bool, cases_lt, cases_order, lt-ltb}
use Rattle.std.proofs.lemmas.Bool.Decides.{nat_tests}
use Rattle.std.proofs.lemmas.Nat.Bits.{bit_at-suc, bit_at_lowest, bit_at_above}
use Rattle.bit_words.specs.Bits.{has_bit}
use Rattle.pair_rows.specs.Counting.{count_below}
use Rattle.bit_words.proofs.lemmas.Words.{bit_of}

abbrev one : Bool → ℕ
one b = if b then 1 else 0

pub count_small : (t : ℕ → Bool) (n : ℕ) → count_below t n ≤ n
unfolding count_below
count_small t zero = omega arith
count_small t (suc n) = let r = count_small t n in elim (cases_Bool (t n)) [
  | inl y ↦ rw y (omega (arith, r))
  | inr n ↦
      rw n (omega (arith, r))
]

pub count_same : (s t : ℕ → Bool) (n : ℕ) → ((k : ℕ) → k < n → s k ≡ t k) → count_below s n ≡ count_below t n
unfolding count_below
count_same s t zero h = refl
count_same s t (suc n) h = rw (h n (omega arith)) (ap (λ m. m + one (t n)) (count_same s t n (λ k lt. h k (omega (arith, lt)))))

pub count_none : (t : ℕ → Bool) (n : ℕ) → ((k : ℕ) → k < n → t k ≡ false) → count_below t n ≡ 0
unfolding count_below
count_none t zero h = refl
count_none t (suc n) h = let r = count_none t n (λ k lt. h k (omega (arith, lt))) in rw (h n (omega arith)) (omega (arith, r))

pub count_split : (t : ℕ → Bool) (m n : ℕ) → count_below t (m + n) ≡ count_below t m + count_below (λ i. t (m + i)) n
unfolding count_below
count_split t m zero = let e : m + 0 ≡ m = omega arith in ap (count_below t) e ∙ omega arith
count_split t m (suc n) =
    let e : m + suc n ≡ suc (m + n) = omega arith in
    let r = count_split t m n in
    ap (count_below t) e ∙ omega (arith, r)

pub count_beyond : (t : ℕ → Bool) (m n : ℕ) → m ≤ n → ((k : ℕ) → m ≤ k → t k ≡ false) → count_below t n ≡ count_below t m
unfolding count_below
count_beyond t m zero le h = let is : m ≡ 0 = omega (arith, le) in rw is refl
count_beyond t m (suc n) le h = elim (cases_order m (suc n)) [
  | inl same ↦ rw same refl
  | inr (inl lt) ↦ let r = count_beyond t m n (omega (arith, lt)) h in rw (h n (omega (arith, lt))) (omega (arith, r))
  | inr (inr gt) ↦ absurd (omega (arith, gt, le))
]

count_front : (t : ℕ → Bool) (n : ℕ) → count_below t (suc n) ≡ one (t 0) + count_below (λ i. t (suc i)) n
unfolding count_below
count_front t zero = omega arith
count_front t (suc n) = let r = count_front t n in omega (arith, r)

low_bit : (b : ℕ) → b < 2 → one (b == 1) ≡ b
low_bit b lt = elim (cases_Bool (b == 1)) [ inl y ↦ grind (arith, nat_tests) | inr n ↦ grind (arith, nat_tests) ]

ones_count : (d n : ℕ) → ones_in d n ≡ count_below (λ i. bit_at n i == 1) d
unfolding count_below ones_in
ones_count zero n = refl
ones_count (suc d) n =
    let r = ones_count d (n / 2) in
    let f = count_front (λ i. bit_at n i == 1) d in
    let s : count_below (λ i. bit_at n (suc i) == 1) d ≡ count_below (λ i. bit_at (n / 2) i == 1) d =
    count_same _ _ d (λ k lt. ap (λ b. b == 1) (bit_at-suc n k)) in
    let l : one (bit_at n 0 == 1) ≡ n % 2 = ap (λ b. one (b == 1)) (bit_at_lowest n) ∙ low_bit (n % 2) (omega arith) in
    omega (arith, r, f, s, l)

below_pow : (n : ℕ) → n < 2 ^ n
below_pow zero = omega arith
below_pow (suc n) = let r = below_pow n in omega (arith, r)

pub ones_word : (n : ℕ) → n < 2 ^ 64 → counts.ones n ≡ count_below (λ i. bit_at n i == 1) 64
unfolding counts.ones ones_in count_below
ones_word n fits = ones_count n n ∙ elim (cases_lt n 64) [
  | inl lt ↦ sym (count_beyond (λ i. bit_at n i == 1) n 64 (omega (arith, lt))
      (λ k le. ap (λ b. b == 1) (bit_at_above n n k (below_pow n) le)))
  | inr ge ↦ count_beyond (λ i. bit_at n i == 1) 64 n (omega (arith, ge)) (λ k le. ap (λ b. b == 1) (bit_at_above n 64 k fits le))
]

-- The bits of one word more.
pub count_word : (words : List ℕ) (k : ℕ) → count_below (has_bit words) (64 * (k + 1)) ≡ count_below (has_bit words)
    (64 * k) + count_below (λ i. bit_at (get_or words k 0) i == 1) 64
count_word words k =
    let e : 64 * (k + 1) ≡ 64 * k + 64 = omega arith in
    let s = count_split (has_bit words) (64 * k) 64 in
    let w : count_below (λ i. has_bit words (64 * k + i)) 64 ≡ count_below (λ i. bit_at (get_or words k 0) i == 1) 64 =
    count_same _ _ 64 (λ i lt. bit_of words k i lt) in
    ap (count_below (has_bit words)) e ∙ (s ∙ ap (λ m. count_below (has_bit words) (64 * k) + m) w)

pub count_start : (t : ℕ → Bool) → count_below t 0 ≡ 0
unfolding count_below
count_start t = refl

pub count_next : (t : ℕ → Bool) (n : ℕ) (b : Bool) → t n ≡ b → count_below t (n + 1) ≡ count_below t n + one b
unfolding count_below
count_next t n b e = rw (add-one n, e) refl

-- ---- bits behind a place

pub all_later : (t : ℕ → Bool) (a base n : ℕ) → a < base → count_below t n ≡ count_below (λ i. nat_lt a (base + i) && t i) n
all_later t a base n lt = count_same t (λ i. nat_lt a (base + i) && t i) n
    (λ k less. sym (ap (λ z. z && t k) (lt-ltb a (base + k) (omega (arith, lt)))))
