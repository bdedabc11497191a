-- Numbers at places, by which the places are parted.
use Rattle.std.specs.Prelude.{◌≡◌, ◌≢◌, ◌↔◌, ◌⊎◌, ℕ, ◌<◌, ◌≤◌, Bool, List, length, get_or, Contains, Option, Some, None}

-- Two places have the same number now exactly where they had, and a test passes at both or at neither.
pub record IsParted (test : ℕ → Bool) (old new : List ℕ) : Type 0 where
  pub each : length new ≡ length old
  pub parted : (i j : ℕ) → i < length old → j < length old
      → (get_or new i 0 ≡ get_or new j 0) ↔ ((get_or old i 0 ≡ get_or old j 0) × (test i ≡ test j))

-- A number has another given in its place: the one that it had, or else this new one.
pub record IsGiven (old new : ℕ → Option ℕ) (number fresh given : ℕ) : Type 0 where
  pub is : new number ≡ Some given
  pub others : (other : ℕ) → other ≢ number → new other ≡ old other
  pub kept : (old number ≡ Some given) ⊎ ((old number ≡ None) × (given ≡ fresh))

-- A place no later than this one has the same number, and the value that stands there is listed.
pub record HasLead (numbers points leads : List ℕ) (place : ℕ) : Type 0 where
  pub lead : ℕ
  pub not_later : lead ≤ place
  pub same : get_or numbers lead 0 ≡ get_or numbers place 0
  pub listed : Contains leads (get_or points lead 0)

-- A value stands at a place, before `end`, whose number stands at no earlier one.
pub record IsLead (end : ℕ) (numbers points : List ℕ) (p : ℕ) : Type 0 where
  pub place : ℕ
  pub within : place < end
  pub point : get_or points place 0 ≡ p
  pub first : (k : ℕ) → k < place → get_or numbers k 0 ≢ get_or numbers place 0

-- Just the values are listed that stand at the first place of a number, where the places are those before
-- `end`.
pub record AreLeads (end : ℕ) (numbers points leads : List ℕ) : Type 0 where
  pub listed : (k : ℕ) → k < end → HasLead numbers points leads k
  pub leading : (p : ℕ) → Contains leads p → IsLead end numbers points p
