-- The privileges of some requirements, as far as they tell whether all agree.
use Rattle.std.specs.Prelude.{◌≡◌, Bool, true, false}
use Rattle.vocabulary.specs.Prelude.{Priv, agree}
use Rattle.item_uses.specs.declared.accesses.Accesses.{Accesses}
use Rattle.item_uses.specs.declared.accesses.Accesses.TheVariants.{Nothing, Same, Mixed}

-- A privilege may be one of these.
abbrev pub IsAmong : Accesses → Priv → Type 0
IsAmong Nothing q = ⊥
IsAmong (Same p) q = agree p q ≡ true
IsAmong Mixed q = Unit {0}

-- Whether each of these agrees with each of those, so far as is known.
abbrev pub all_agree : Accesses → Accesses → Bool
all_agree (Same p) (Same q) = agree p q
all_agree _ _ = false
