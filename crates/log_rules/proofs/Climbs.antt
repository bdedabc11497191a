-- Climbs from space to space, step by step.
use Rattle.std.proofs.Common.{◌≡◌, ℕ, suc, zero, ◌+◌, ◌-◌, ◌<◌, ◌==◌, Bool, false, ◌||◌, List, [], Option, Some, None, min, nat_lt, length, refl, ap, inl, inr, arith}
use Rattle.std.proofs.lemmas.Bool.{cases_lt}
use Rattle.std.proofs.lemmas.Bool.Decides.{nat_tests}
use Rattle.vocabulary.specs.Prelude.{Tables, upward, space_above, is_in}

-- one step more
pub climbed_more : (t : Tables) (n up limit at above : ℕ) → up < limit → space_above t at ≡ Some above
    → n ≡ up + length (upward t (limit - up) (space_above t at)) → n ≡ (up + 1) + length (upward t (limit - (up + 1)) (space_above t above))
climbed_more t n up limit at above lt is e =
    let k : limit - up ≡ suc (limit - (up + 1)) = omega arith in
    let h : n ≡ up + suc (length (upward t (limit - (up + 1)) (space_above t above))) = rw (k, is) at e in
    omega (arith, h)

none_above : (t : Tables) (k : ℕ) → upward t k None ≡ []
none_above t zero = refl
none_above t (suc k) = refl

-- the same, for a root that is looked for
pub missed_more : (t : Tables) (b : Bool) (root up limit at above : ℕ) → up < limit → space_above t at ≡ Some above → (above ≡ root → ⊥)
    → b ≡ is_in (upward t (limit - up) (space_above t at)) root → b ≡ is_in (upward t (limit - (up + 1)) (space_above t above)) root
missed_more t b root up limit at above lt is ne e =
    let k : limit - up ≡ suc (limit - (up + 1)) = omega arith in
    let no : (above == root) ≡ false = grind (arith) in
    let h : b ≡ ((above == root) || is_in (upward t (limit - (up + 1)) (space_above t above)) root) = rw (k, is) at e in
    rw no at h

-- a climb that is cut off
pub cut_off : (t : Tables) (n m k : ℕ) (o : Option ℕ) → k ≡ min n m → length (upward t k o) ≡ min (length (upward t n o)) m
cut_off t n m zero o e = elim (cases_lt 0 m) [
  | inl lt ↦ let z : n ≡ 0 = omega arith in let h : length (upward t n o) ≡ 0 = ap (λ j. length (upward t j o)) z in omega arith
  | inr le ↦ omega arith
]
cut_off t n m (suc k) None e = let z : length (upward t n None) ≡ 0 = ap (λ (xs : List ℕ). length xs) (none_above t n) in omega arith
cut_off t zero m (suc k) (Some s) e = absurd (omega arith)
cut_off t (suc n) zero (suc k) (Some s) e = absurd (omega arith)
cut_off t (suc n) (suc m) (suc k) (Some s) e =
    let h = cut_off t n m k (space_above t s) (omega arith) in
    omega (arith, h)

pub deep_test : (l h : ℕ) → h ≡ min l 64 → (h == 64) ≡ nat_lt 64 (1 + l)
deep_test l h e = elim (cases_lt l 64) [ inl lt ↦ grind (arith, nat_tests) | inr le ↦ grind (arith, nat_tests) ]
