-- Keys that are alike have one number.
use Rattle.std.specs.Prelude.{◌≡◌, ℕ, ◌&&◌, true, Option, Some, None, refl, nat_eq, unwrap_or}
use Rattle.std.specs.Option.{option_eq}
use Rattle.std.proofs.Common.{ap₂}
use Rattle.std.proofs.lemmas.Bool.{and_parts, eqb-true, false≢true}

-- Optional numbers, where none counts as 0.
pub alike_options : (a b : Option ℕ) → option_eq nat_eq a b ≡ true → unwrap_or a 0 ≡ unwrap_or b 0
alike_options None None same = refl
alike_options (Some a) (Some b) same = eqb-true a b same
alike_options None (Some b) same = absurd (false≢true same)
alike_options (Some a) None same = absurd (false≢true same)

-- Pairs, by what is made of their parts.
pub alike_pairs : (f : ℕ → ℕ → ℕ) (a b c d : ℕ) → (nat_eq a b && nat_eq c d) ≡ true → f a c ≡ f b d
alike_pairs f a b c d same =
    ap₂ f (eqb-true a b (and_parts (nat_eq a b) (nat_eq c d) same).0) (eqb-true c d (and_parts (nat_eq a b) (nat_eq c d) same).1)
