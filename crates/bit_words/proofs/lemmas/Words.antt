-- Bits in words of 64.
use Rattle.std.proofs.Common.{◌≡◌, ℕ, ◌+◌, ◌-◌, ◌*◌, ◌/◌, ◌%◌, ◌^◌, ◌<◌, ◌==◌, ◌||◌, ◌&&◌, not, min, Bool, true, false, List, length, get_or, set, lit<, arith, refl, sym, ap, ◌∙◌, inl, inr, eqb, eq-eqb, eqb-true, w64, max, All}
use Rattle.std.specs.Prelude.{bit_and, bit_or}
use Rattle.std.specs.Int.{bit_at, bit_not}
use Rattle.std.proofs.lemmas.Bool.{cases_eq, ne_eqb, or_right, eqb-false}
use Rattle.std.proofs.lemmas.Bool.Decides.{nat_tests}
use Rattle.std.proofs.lemmas.List.{get_or-set_other, get_or_default}
use Rattle.std.proofs.lemmas.Grind.{get_or-set_at}
use Rattle.std.proofs.lemmas.Nat.Bits.{shr_and_one, bit_at_or, bit_at-zero, bit_at_ones, bit_at_set_same, bit_at_set_other, bit_at-lt, bit_at_and, bit_at_not, same_from_bits_below}
use Rattle.bit_words.specs.Bits.{has_bit}

pub has_tests : (words : List ℕ) (j : ℕ) → eqb (bit_and (get_or words (j / 64) 0 / 2 ^ (j % 64)) 1) 1 ≡ has_bit words j
unfolding has_bit
has_tests words j = rw shr_and_one refl

either : (a b : ℕ) → a < 2 → b < 2 → eqb (max a b) 1 ≡ (eqb a 1 || eqb b 1)
either a b m n = grind (arith, nat_tests)

pub has_both : (new old other : List ℕ) (i : ℕ) → get_or new (i / 64) 0 ≡ bit_or (get_or old (i / 64) 0) (get_or other (i / 64) 0)
    → has_bit new i ≡ (has_bit old i || has_bit other i)
unfolding has_bit
has_both new old other i word = rw (word, bit_at_or) (either (bit_at (get_or old (i / 64) 0) (i % 64))
    (bit_at (get_or other (i / 64) 0) (i % 64)) (bit_at-lt _ _) (bit_at-lt _ _))

pub has_set : (words : List ℕ) (j i : ℕ) → j / 64 < length words
    → has_bit (set words (j / 64) (bit_or (get_or words (j / 64) 0) (1 * 2 ^ (j % 64) % 2 ^ 64))) i ≡ (has_bit words i || (j == i))
unfolding has_bit
has_set words j i within = elim (cases_eq (i / 64) (j / 64)) [
  | inl same ↦ rw (get_or-set_at words (j / 64) (i / 64) (bit_or (get_or words (j / 64) 0) (1 * 2 ^ (j % 64) % 2 ^ 64)) 0 same within)
      (elim (cases_eq (i % 64) (j % 64)) [
        | inl at ↦
            let is : j ≡ i = omega arith in
            rw (at, bit_at_set_same w64 (get_or words (j / 64) 0) (j % 64) (omega arith)) (sym (or_right _ (j == i) (eq-eqb j i is)))
        | inr other ↦
            let no : (j == i) ≡ false = ne_eqb j i (λ e. other (ap (λ n. n % 64) (sym e))) in
            rw (bit_at_set_other w64 (get_or words (j / 64) 0) (j % 64) (omega arith) (i % 64) other, no, ← same) (grind arith)
      ])
  | inr far ↦
      let no : (j == i) ≡ false = ne_eqb j i (λ e. far (ap (λ n. n / 64) (sym e))) in
      rw (get_or-set_other words (j / 64) (i / 64) (bit_or (get_or words (j / 64) 0) (1 * 2 ^ (j % 64) % 2 ^ 64)) 0 far, no)
      (grind arith)
]

pub none_set : (words : List ℕ) → All (λ w. w ≡ 0) words → (i : ℕ) → i / 64 < length words → has_bit words i ≡ false
unfolding has_bit
none_set words zeros i within = rw (zeros (i / 64) 0 within, bit_at-zero) refl

pub all_set : (words : List ℕ) → All (λ w. w ≡ 2 ^ 64 - 1) words → (i : ℕ) → i / 64 < length words → has_bit words i ≡ true
unfolding has_bit
all_set words ones i within = rw (ones (i / 64) 0 within, bit_at_ones 64 (i % 64) (omega arith)) refl

-- A word is known by its bits.
word_bit : (words : List ℕ) (k i : ℕ) (b : Bool) → i < 64 → has_bit words (64 * k + i) ≡ b → (bit_at (get_or words k 0) i == 1) ≡ b
unfolding has_bit
word_bit words k i b lt h =
    let word : (64 * k + i) / 64 ≡ k = omega arith in
    let bit : (64 * k + i) % 64 ≡ i = omega arith in
    rw (word, bit) at h

pub set_bit : (n i : ℕ) → (bit_at n i == 1) ≡ true → bit_at n i ≡ 1
set_bit n i h = eqb-true (bit_at n i) 1 h

pub clear_bit : (n i : ℕ) → (bit_at n i == 1) ≡ false → bit_at n i ≡ 0
clear_bit n i h = let lt : bit_at n i < 2 = bit_at-lt n i in let ne : bit_at n i ≡ 1 → ⊥ = eqb-false (bit_at n i) 1 h in
    omega (arith, lt, ne)

pub zeros_from : (words : List ℕ) → ((k : ℕ) → get_or words k 0 < 2 ^ 64)
    → ((i : ℕ) → i < 64 * length words → has_bit words i ≡ false) → All (λ w. w ≡ 0) words
zeros_from words fits none k d within =
    get_or_default words k d 0 within ∙ same_from_bits_below 64 (get_or words k 0) 0 (fits k) (lit< tt)
    (λ i lt. clear_bit _ i (word_bit words k i false lt (none (64 * k + i) (omega arith))) ∙ sym (bit_at-zero i))

pub ones_from : (words : List ℕ) → ((k : ℕ) → get_or words k 0 < 2 ^ 64) → ((i : ℕ) → i < 64 * length words → has_bit words i ≡ true)
    → All (λ w. w ≡ 2 ^ 64 - 1) words
ones_from words fits all k d within =
    get_or_default words k d 0 within ∙ same_from_bits_below 64 (get_or words k 0) (2 ^ 64 - 1) (fits k) (lit< tt)
    (λ i lt. set_bit _ i (word_bit words k i true lt (all (64 * k + i) (omega arith))) ∙ sym (bit_at_ones 64 i lt))

less_bit : (a b : ℕ) → a < 2 → b < 2 → eqb (min a (1 - b)) 1 ≡ (eqb a 1 && not (eqb b 1))
less_bit a b m n = grind (arith, nat_tests)

pub word_less : (word other i : ℕ) → other < 2 ^ 64 → i < 64 → eqb (bit_at (bit_and word (bit_not w64 other)) i) 1 ≡
    (eqb (bit_at word i) 1 && not (eqb (bit_at other i) 1))
word_less word other i fits lt =
    rw (bit_at_and word (bit_not w64 other) i, bit_at_not w64 other i fits lt)
    (less_bit (bit_at word i) (bit_at other i) (bit_at-lt _ _) (bit_at-lt _ _))

pub has_less : (new old other : List ℕ) (i : ℕ)
    → ((j : ℕ) → j < 64 → eqb (bit_at (get_or new (i / 64) 0) j) 1 ≡
    (eqb (bit_at (get_or old (i / 64) 0) j) 1 && not (eqb (bit_at (get_or other (i / 64) 0) j) 1)))
    → has_bit new i ≡ (has_bit old i && not (has_bit other i))
unfolding has_bit
has_less new old other i h = h (i % 64) (omega arith)

pub bit_of : (words : List ℕ) (k i : ℕ) → i < 64 → has_bit words (64 * k + i) ≡ (bit_at (get_or words k 0) i == 1)
unfolding has_bit
bit_of words k i lt =
    let word : (64 * k + i) / 64 ≡ k = omega arith in
    let bit : (64 * k + i) % 64 ≡ i = omega arith in
    rw (word, bit) refl
