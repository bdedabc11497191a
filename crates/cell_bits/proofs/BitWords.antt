-- Bits in words of 64.
use Rattle.std.proofs.Common.{◌≡◌, ℕ, ◌+◌, ◌-◌, ◌*◌, ◌/◌, ◌%◌, ◌^◌, ◌<◌, ◌≤◌, ◌==◌, ◌||◌, ◌&&◌, ◌↔◌, min, Bool, true, false, nat_lt, List, All, subst, length, get_or, set, lit<, arith, refl, sym, ap, ◌∙◌, inl, inr, eq-eqb, eqb-true, w64}
use Rattle.std.proofs.Math.ListN.{replicate}
use Rattle.std.proofs.lemmas.List.Elements.{All-replicate}
use Rattle.std.specs.Prelude.{bit_and, nat_le}
use Rattle.std.specs.Int.{bit_at, bit_not}
use Rattle.std.proofs.lemmas.Bool.{cases_eq, cases_lt, ne_eqb, eqb-false, true≢false}
use Rattle.std.proofs.lemmas.Bool.Decides.{nat_tests}
use Rattle.std.proofs.lemmas.List.{get_or_past}
use Rattle.std.proofs.lemmas.Nat.{and_le_l}
use Rattle.std.proofs.lemmas.Nat.Bits.{bit_at-zero, bit_at-lt, bit_at_and, bit_at_not, same_from_bits_below}
use Rattle.bit_words.specs.Bits.{has_bit}
use Rattle.bit_words.proofs.lemmas.Words.{bit_of}

-- One bit more in a row of them.
pub one_more : (b : Bool) (from j n : ℕ) → from ≤ j
    → ((b || (nat_le from n && nat_lt n j)) || (j == n)) ≡ (b || (nat_le from n && nat_lt n (j + 1)))
one_more true from j n le = refl
one_more false from j n le = grind (arith, nat_tests)

pub none_yet : (b : Bool) (from n : ℕ) → b ≡ (b || (nat_le from n && nat_lt n from))
none_yet true from n = refl
none_yet false from n = grind (arith, nat_tests)

-- A word is zero where none of its bits is set.
pub zero_word : (word : ℕ) → word < 2 ^ 64 → (word == 0) ≡ true ↔ ((i : ℕ) → i < 64 → bit_at word i ≡ 0)
zero_word word fits = (
  λ e i lt. ap (λ n. bit_at n i) (eqb-true word 0 e) ∙ bit_at-zero i,
  λ none. eq-eqb word 0 (same_from_bits_below 64 word 0 fits (lit< tt) (λ i lt. none i lt ∙ sym (bit_at-zero i))),
)

both_zero : (a b : ℕ) → a < 2 → b < 2 → (min a (1 - b) ≡ 0) ↔ ((a == 1) ≡ true → (b == 1) ≡ true)
both_zero a b m n = (
  λ e is. let one = eqb-true a 1 is in eq-eqb b 1 (omega (arith, e, one, n)),
  λ h. elim (cases_eq a 1) [
    | inl one ↦ let b1 = eqb-true b 1 (h (eq-eqb a 1 one)) in omega (arith, b1)
    | inr not_one ↦ omega (arith, not_one, m)
  ],
)

either_zero : (a b : ℕ) → a < 2 → b < 2 → (min a b ≡ 0) ↔ ((a == 1) ≡ true → (b == 1) ≡ false)
either_zero a b m n = (
  λ e is. let one = eqb-true a 1 is in ne_eqb b 1 (λ two. absurd (omega (arith, e, one, two))),
  λ h. elim (cases_eq a 1) [
    | inl one ↦ let b0 = eqb-false b 1 (h (eq-eqb a 1 one)) in omega (arith, b0, n)
    | inr not_one ↦ omega (arith, not_one, m)
  ],
)

pub part_word : (word other : ℕ) → word < 2 ^ 64 → other < 2 ^ 64
    → (bit_and word (bit_not w64 other) == 0) ≡ true ↔ ((i : ℕ) → i < 64 → (bit_at word i == 1) ≡ true → (bit_at other i == 1) ≡ true)
part_word word other low fits =
    let small : bit_and word (bit_not w64 other) < 2 ^ 64 = (let le = and_le_l word (bit_not w64 other) in omega (arith, le, low)) in
    let both : (i : ℕ) → i < 64 → bit_at (bit_and word (bit_not w64 other)) i ≡ min (bit_at word i) (1 - bit_at other i) =
    λ i lt. bit_at_and word (bit_not w64 other) i ∙ ap (min (bit_at word i)) (bit_at_not w64 other i fits lt) in (
      λ e i lt. (both_zero (bit_at word i) (bit_at other i) (bit_at-lt _ _) (bit_at-lt _ _)).0
          (sym (both i lt) ∙ (zero_word _ small).0 e i lt),
      λ h. (zero_word _ small).1
          (λ i lt. both i lt ∙ (both_zero (bit_at word i) (bit_at other i) (bit_at-lt _ _) (bit_at-lt _ _)).1 (h i lt)),
    )

pub apart_word : (word other : ℕ) → word < 2 ^ 64
    → (bit_and word other == 0) ≡ true ↔ ((i : ℕ) → i < 64 → (bit_at word i == 1) ≡ true → (bit_at other i == 1) ≡ false)
apart_word word other low = let small : bit_and word other < 2 ^ 64 = (let le = and_le_l word other in omega (arith, le, low)) in (
  λ e i lt. (either_zero (bit_at word i) (bit_at other i) (bit_at-lt _ _) (bit_at-lt _ _)).0
      (sym (bit_at_and word other i) ∙ (zero_word _ small).0 e i lt),
  λ h. (zero_word _ small).1
      (λ i lt. bit_at_and word other i ∙ (either_zero (bit_at word i) (bit_at other i) (bit_at-lt _ _) (bit_at-lt _ _)).1 (h i lt)),
)

-- The bits of words are those of each word.
pub in_word : (words : List ℕ) (n : ℕ) → has_bit words n ≡ (bit_at (get_or words (n / 64) 0) (n % 64) == 1)
unfolding has_bit
in_word words n = refl

pub none_behind : (words : List ℕ) (n : ℕ) → length words ≤ n / 64 → has_bit words n ≡ false
unfolding has_bit
none_behind words n past = rw (get_or_past words (n / 64) 0 past, bit_at-zero) refl

-- What each word tells of its bits.
pub word_tells : (ours : List ℕ) (k n : ℕ) → has_bit ours n ≡ true → n / 64 ≡ k → (bit_at (get_or ours k 0) (n % 64) == 1) ≡ true
word_tells ours k n set at = ap (λ j. bit_at (get_or ours j 0) (n % 64) == 1) (sym at) ∙ sym (in_word ours n) ∙ set

pub tells_word : (theirs : List ℕ) (b : Bool) (k n : ℕ) → n / 64 ≡ k → (bit_at (get_or theirs k 0) (n % 64) == 1) ≡ b → has_bit theirs n ≡ b
tells_word theirs b k n at is = in_word theirs n ∙ ap (λ j. bit_at (get_or theirs j 0) (n % 64) == 1) at ∙ is

-- Bits of words, word by word: of those that are set in ours each is `b` in theirs.
abbrev pub AreAll : Bool → List ℕ → List ℕ → ℕ → Type 0
AreAll b ours theirs k = (n : ℕ) → n < 64 * k → has_bit ours n ≡ true → has_bit theirs n ≡ b

abbrev pub InWord : Bool → ℕ → ℕ → Type 0
InWord b word other = (i : ℕ) → i < 64 → (bit_at word i == 1) ≡ true → (bit_at other i == 1) ≡ b

pub word_more : (b : Bool) (ours theirs : List ℕ) (k : ℕ) → AreAll b ours theirs k → InWord b (get_or ours k 0) (get_or theirs k 0)
    → AreAll b ours theirs (k + 1)
word_more b ours theirs k before here n lt set = elim (cases_lt n (64 * k)) [
  | inl earlier ↦ before n earlier set
  | inr last ↦
      let at : n / 64 ≡ k = omega (arith, last, lt) in
      tells_word theirs b k n at (here (n % 64) (omega arith) (word_tells ours k n set at))
]

pub all_words : (b : Bool) (ours theirs : List ℕ) (k : ℕ) → length ours ≤ k → AreAll b ours theirs k → (n : ℕ) → has_bit ours n ≡ true
    → has_bit theirs n ≡ b
all_words b ours theirs k past all n set = elim (cases_lt n (64 * length ours)) [
  | inl within ↦ all n (omega (arith, within, past)) set
  | inr behind ↦ absurd (true≢false (sym set ∙ none_behind ours n (omega (arith, behind))))
]

pub in_each_word : (b : Bool) (ours theirs : List ℕ) (k : ℕ) → ((n : ℕ) → has_bit ours n ≡ true → has_bit theirs n ≡ b)
    → InWord b (get_or ours k 0) (get_or theirs k 0)
in_each_word b ours theirs k all i lt set = sym (bit_of theirs k i lt) ∙ all (64 * k + i) (bit_of ours k i lt ∙ set)

pub no_bits : (words : List ℕ) (n count : ℕ) → words ≡ replicate count 0 → has_bit words n ≡ false
no_bits words n count zeros = elim (cases_lt (n / 64) (length words)) [
  | inl within ↦
      let all = subst (All (λ w. w ≡ 0)) (sym zeros) (All-replicate (λ w. w ≡ 0) count 0 refl) in
      in_word words n ∙ ap (λ w. bit_at w (n % 64) == 1) (all (n / 64) 0 within) ∙ ap (λ b. b == 1) (bit_at-zero (n % 64))
  | inr behind ↦ none_behind words n behind
]
