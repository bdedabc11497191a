-- What is read of the digits of a number is that number.
use Rattle.std.proofs.Common.{◌≡◌, ℕ, ◌+◌, ◌-◌, ◌*◌, ◌^◌, ◌<◌, ◌≤◌, List, [], ◌∷◌, min, fold, refl, subst, ◌∙◌, arith}
use Rattle.std.specs.Prelude.{decimal}
use Rattle.std.specs.Char.{digit_value}
use Rattle.std.specs.Str.Parse.{AllDigits, digits_value, digits_value_after}
use Rattle.std.proofs.lemmas.Bool.Decides.{nat_tests}
use Rattle.std.proofs.lemmas.Fmt.{digits_decimal, digits_value-decimal}
use Rattle.std.proofs.lemmas.Str.Parse.{IsNumeralModel, numerals_by_value, tells_digits}
use Rattle.report_reading.specs.Numbers.{number_of}

pub own : IsNumeralModel (AllDigits 10) (digits_value 10)
own = numerals_by_value (AllDigits 10) tells_digits

pub digit_is : (b : ℕ) → digit_value b < 10 → (digit_value b ≡ b - 48) × (48 ≤ b) × (b ≤ 57)
digit_is b lt = (grind (arith, nat_tests), grind (arith, nat_tests), grind (arith, nat_tests))

clamped : (greatest v : ℕ) (w : List ℕ) → AllDigits 10 w
    → fold (λ value b. min (value * 10 + (b - 48)) greatest) (min v greatest) w ≡ min (digits_value_after 10 v w) greatest
clamped greatest v [] all = refl
clamped greatest v (b ∷ w) all =
    let digit = (digit_is b all.0).0 in
    let step : min (min v greatest * 10 + (b - 48)) greatest ≡ min (v * 10 + digit_value b) greatest = omega (arith, digit) in
    rw step (clamped greatest (v * 10 + digit_value b) w all.1)

number_again : (greatest n : ℕ) → n ≤ greatest → n < 2 ^ 64 → number_of greatest (decimal n) ≡ n
unfolding number_of
number_again greatest n le lt =
    let value : digits_value 10 (decimal n) ≡ n = digits_value-decimal own n lt in
    let start : min 0 greatest ≡ 0 = omega arith in
    subst (λ (m : ℕ). fold (λ value b. min (value * 10 + (b - 48)) greatest) m (decimal n) ≡ n) start
    (clamped greatest 0 (decimal n) (digits_decimal own n lt) ∙ rw value (omega arith))

pub small_again : (n : ℕ) → n < 2 ^ 32 → number_of (2 ^ 32 - 1) (decimal n) ≡ n
small_again n lt = number_again (2 ^ 32 - 1) n (omega arith) (omega arith)

pub large_again : (n : ℕ) → n < 2 ^ 64 → number_of (2 ^ 64 - 1) (decimal n) ≡ n
large_again n lt = number_again (2 ^ 64 - 1) n (omega arith) lt
