-- A word and its number.
use Rattle.std.proofs.Common.{◌≡◌, ℕ, ◌<◌, ◌^◌, Bool, true, false, not, ◌&&◌, List, length, refl, arith, rules, Option, Some, None, Result, Ok, Err}
use Rattle.std.specs.Prelude.{◌==◌, nat_lt, if◌then◌else◌}
use Rattle.std.specs.Char.{is_ascii_digit}
use Rattle.std.specs.List.{list_all}
use Rattle.std.specs.Result.{result_ok}
use Rattle.std.specs.Str.Parse.{ParsesUnsigned, digits_value}
use Rattle.std.proofs.lemmas.Bool.{ltb-true, lt-ltb}
use Rattle.std.proofs.lemmas.Bool.Decides.{nat_tests}
use Rattle.std.proofs.lemmas.Str.Parse.{IsNumeralModel, numerals_by_value, parse_digits}
use Rattle.vocabulary.specs.Prelude.{is_digits, has_leading_zero}
use Rattle.spy_args.specs.Asked.{number_at}

-- the words of digits, in std's terms
own : IsNumeralModel (λ w. list_all is_ascii_digit w ≡ true) (digits_value 10)
own = numerals_by_value _ (search rules)

none_by : (some digits zero small : Bool) (n : ℕ) → (some ≡ true → small ≡ true → ⊥)
    → ◌≡◌ {A = Option ℕ} None (if some && digits && not zero && small then Some n else None)
none_by false digits zero small n h = refl
none_by true false zero small n h = refl
none_by true true true small n h = refl
none_by true true false false n h = refl
none_by true true false true n h = absurd (h refl refl)

pub number_parsed : {E : Type 0} (w : List ℕ) (r : Result ℕ E) → list_all is_ascii_digit w ≡ true → has_leading_zero w ≡ false
    → ParsesUnsigned 64 10 w r → result_ok r ≡ number_at 64 w
number_parsed {E = E} w (Ok n) digits first h =
    let d : ((0 < length w) × (digits_value 10 w < 2 ^ 64)) × (n ≡ digits_value 10 w) = parse_digits own {E = E} 64 w (Ok n) h digits in
    let some : is_digits w ≡ true = grind (arith, nat_tests) in
    rw (some, first, lt-ltb (digits_value 10 w) (2 ^ 64) d.0.1, d.1) refl
number_parsed {E = E} w (Err e) digits first h =
    let d : (0 < length w) × (digits_value 10 w < 2 ^ 64) → ⊥ = parse_digits own {E = E} 64 w (Err e) h digits in
    let none : not (length w == 0) ≡ true → nat_lt (digits_value 10 w) (2 ^ 64) ≡ true → ⊥ =
    λ some small. d (grind (arith, nat_tests), ltb-true _ _ small) in
    none_by _ _ _ _ (digits_value 10 w) none
