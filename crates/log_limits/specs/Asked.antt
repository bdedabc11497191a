-- What a record asks for.
use Rattle.std.specs.Prelude.{◌≡◌, ℕ, List, Option}
use Rattle.std.specs.Borrow.{Bor}
use Rattle.std.specs.Option.{option_map}

-- The code's answer is this one.
abbrev pub Asks : Option (ℕ × Bor (List ℕ)) → Option (ℕ × List ℕ) → Type 0
Asks found is = option_map (λ (p : ℕ × Bor (List ℕ)). (p.0, p.1.now)) found ≡ is
