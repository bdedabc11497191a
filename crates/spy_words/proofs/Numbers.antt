-- A number and its word, both ways.
use Rattle.std.proofs.Common.{◌≡◌, ℕ, zero, suc, ◌+◌, ◌*◌, ◌-◌, ◌^◌, ◌<◌, Bool, true, false, List, [], ◌∷◌, length, get_or, take, drop, min, Ok, Some, None, ◌&&◌, ◌≤◌, if◌then◌else◌, refl, sym, ap, subst, ◌∙◌, arith, rules}
use Rattle.std.specs.Prelude.{decimal}
use Rattle.std.specs.Char.{is_ascii_digit}
use Rattle.std.specs.Int.{IsInRange}
use Rattle.std.specs.List.{list_all}
use Rattle.std.specs.Str.Parse.{digits_value}
use Rattle.std.proofs.lemmas.Bool.{false≢true, lt-ltb, le-ltb, ne_eqb}
use Rattle.std.proofs.lemmas.Bool.Decides.{nat_tests}
use Rattle.std.proofs.lemmas.Fmt.{decimal-digits_value, digits_decimal, digits_value-decimal, first_decimal, decimal_nonempty, decimal_digit}
use Rattle.std.proofs.lemmas.Int.Digits.{digits_value_more}
use Rattle.std.proofs.lemmas.List.{take-append-drop}
use Rattle.std.proofs.lemmas.List.Folds.{list_all_at, list_all-append}
use Rattle.std.proofs.lemmas.Str.{digit_value_digit}
use Rattle.std.proofs.lemmas.Str.Parse.{IsNumeralModel, numerals_by_value, digits_value-take-le}
use Rattle.spy_words.specs.Classes.{IsNumberFrom}
use Rattle.spy_words.specs.Reading.{capped_value, is_digits, has_leading_zero, number_from}
use Rattle.spy_words.proofs.lemmas.Joins.{Above, Lacks}

-- ---- digits

digit_of_test : (c : ℕ) (b : Bool) → is_ascii_digit c ≡ b → (b ≡ false → ⊥) → IsInRange 48 57 c
digit_of_test c true e n = grind (arith, nat_tests)
digit_of_test c false e n = absurd (n refl)

digit_at : (w : List ℕ) (i : ℕ) → list_all is_ascii_digit w ≡ true → i < length w → IsInRange 48 57 (get_or w i 0)
digit_at w i all lt = digit_of_test (get_or w i 0) _ refl (λ fails. false≢true (sym (list_all_at is_ascii_digit w i 0 lt fails) ∙ all))

-- one more digit
pub value_more : (w : List ℕ) (i value : ℕ) → i < length w → is_ascii_digit (get_or w i 0) ≡ true → value ≡ digits_value 10 (take i w)
    → value * 10 + (get_or w i 0 - 48) ≡ digits_value 10 (take (i + 1) w)
value_more w i value lt digit so_far =
    let d = digit_of_test (get_or w i 0) _ refl (λ fails. false≢true (sym fails ∙ digit)) in
    omega (arith, digits_value_more 10 w i lt, digit_value_digit (get_or w i 0) d, d.0, d.1)

-- a value that is large stays large
pub value_stays : (w : List ℕ) (i : ℕ) → list_all is_ascii_digit (take i w) ≡ true → 2 ^ 32 ≤ digits_value 10 (take i w)
    → capped_value w ≡ (if list_all is_ascii_digit (drop i w) then Some (2 ^ 32) else None)
value_stays w i digits large =
    let all : list_all is_ascii_digit w ≡ list_all is_ascii_digit (drop i w) = ap (list_all is_ascii_digit) (sym (take-append-drop i w))
    ∙ list_all-append is_ascii_digit (take i w) (drop i w) ∙ ap (λ b. b && list_all is_ascii_digit (drop i w)) digits in
    let least : min (digits_value 10 w) (2 ^ 32) ≡ 2 ^ 32 = omega (arith, large, digits_value-take-le 10 w i (omega arith)) in
    rw (all, least) refl

-- the words of digits, in std's terms
own : IsNumeralModel (λ w. list_all is_ascii_digit w ≡ true) (digits_value 10)
own = numerals_by_value _ (search rules)

digits_above : (w : List ℕ) → list_all is_ascii_digit w ≡ true → Above 45 w
digits_above [] all = tt
digits_above (b ∷ w) all =
    let r = digit_at (b ∷ w) 0 all (omega arith) in
    let rest : list_all is_ascii_digit w ≡ true = grind (arith, nat_tests) in
    (omega (arith, r.0), digits_above w rest)

digits_lack : (w : List ℕ) → list_all is_ascii_digit w ≡ true → Lacks 58 w
digits_lack [] all = tt
digits_lack (b ∷ w) all =
    let r = digit_at (b ∷ w) 0 all (omega arith) in
    let rest : list_all is_ascii_digit w ≡ true = grind (arith, nat_tests) in
    (ne_eqb b 58 (λ e. absurd (omega (arith, r.1, e))), digits_lack w rest)

-- ---- numbers

pub number_lacks : (n : ℕ) → n < 2 ^ 32 → Lacks 58 (decimal n)
number_lacks n lt = digits_lack (decimal n) (digits_decimal own n (omega (arith, lt)))

pub number_takes : (least : ℕ) (w : List ℕ) (n : ℕ) → number_from least w ≡ Ok n → (w ≡ decimal n) × IsNumberFrom least n
unfolding number_from
number_takes least w n e =
    let value : digits_value 10 w ≡ n = grind (arith, nat_tests) in
    let digits : is_digits w ≡ true = grind (arith, nat_tests) in
    let plain : has_leading_zero w ≡ false = grind (arith, nat_tests) in
    let range : IsNumberFrom least (digits_value 10 w) = (grind (arith, nat_tests), grind (arith, nat_tests)) in
    let all : list_all is_ascii_digit w ≡ true = grind (arith, nat_tests) in
    let some : 0 < length w = grind (arith, nat_tests) in
    let first : get_or w 0 0 ≡ 48 → length w ≡ 1 = λ e. grind (arith, nat_tests) in
    let text : decimal (digits_value 10 w) ≡ w = decimal-digits_value own w all some first (omega (arith, range.1)) in
    subst (λ (m : ℕ). (w ≡ decimal m) × IsNumberFrom least m) value (sym text, range)

no_leading_zero : (n : ℕ) → n < 2 ^ 32 → has_leading_zero (decimal n) ≡ false
no_leading_zero zero lt = rw (decimal_digit 0 (omega arith)) refl
no_leading_zero (suc n) lt = let f = first_decimal (suc n) (omega arith) (omega arith) in grind (arith, nat_tests)

pub number_again : (least n : ℕ) → IsNumberFrom least n → (number_from least (decimal n) ≡ Ok n) × Above 45 (decimal n)
unfolding number_from
number_again least n good =
    let all = digits_decimal own n (omega (arith, good.1)) in
    let value = digits_value-decimal own n (omega (arith, good.1)) in
    let some = decimal_nonempty n (omega (arith, good.1)) in
    let digits : is_digits (decimal n) ≡ true = grind (arith, nat_tests) in
    (rw (digits, no_leading_zero n good.1, value, le-ltb n least good.0, lt-ltb n (2 ^ 32) good.1) refl, digits_above (decimal n) all)
