-- How two items interfere, and what is remembered of that.
use Rattle.std.specs.Prelude.{◌≡◌, ℕ, List, All, Option, option_map}
use Rattle.item_uses.specs.declared.between.Interference.{Interference}
use Rattle.item_uses.specs.Usages.{Usage, usages_at}
use Rattle.item_uses.specs.Sharing.{kind_between, place_between}
use Rattle.vocabulary.specs.Prelude.{Place}
use Rattle.interference.specs.declared.pair.Pair.{Pair}
use Rattle.interference.specs.declared.recent.Remembered.{Remembered}

-- What is found of two items is how they interfere.
pub record IsHow (us : List (List Usage)) (a b : ℕ) (found : Interference) : Type 0 where
  pub kind : found.kind ≡ kind_between (usages_at us a) (usages_at us b)
  pub place : found.place ≡ place_between (usages_at us a) (usages_at us b)

-- The pair of two items of which this is found, if they interfere.
abbrev pub pair_found : ℕ → ℕ → Interference → Option Pair
pair_found a b found =
    option_map (λ (p : Place). record { a = a; b = b; kind = found.kind; place = p }) found.place

-- What is remembered of two items is how they interfere.
abbrev pub IsRight : List (List Usage) → Remembered → Type 0
IsRight us r = IsHow us r.ours r.theirs r.found

-- All that is remembered is right.
abbrev pub AreRight : List (List Usage) → List Remembered → Type 0
AreRight us rs = All (IsRight us) rs
