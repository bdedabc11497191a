-- Records, each on a line of its own.
use Rattle.std.proofs.Common.{◌≡◌, ℕ, ◌+◌, List, [], ◌∷◌, map, refl, ap, inr}
use Rattle.std.specs.List.{AllByRecursion}
use Rattle.vocabulary.specs.Prelude.{Record, Good, spelling, Hold, lined_from, records_of}

pub records_numbered : (line : ℕ) (rs : List Record) → records_of (lined_from line rs) ≡ rs
records_numbered line [] = refl
records_numbered line (r ∷ rs) = ap (λ ls. r ∷ ls) (records_numbered (line + 1) rs)

-- Their spellings hold them.
pub spellings_hold : (line : ℕ) (rs : List Record) → AllByRecursion Good rs → Hold line (map spelling rs) (lined_from line rs)
spellings_hold line [] good = refl
spellings_hold line (r ∷ rs) good = inr (r, lined_from (line + 1) rs, good.0, refl, refl, spellings_hold (line + 1) rs good.1)
