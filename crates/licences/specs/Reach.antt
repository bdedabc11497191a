-- How far what a claim asks for is allowed, point by point, and where it is first refused.
use Rattle.std.specs.Prelude.{◌≡◌, ℕ, ◌^◌, ◌<◌, ◌≤◌, ◌==◌, ◌&&◌, Bool, true, false, List, Contains, Option, Some, None, IfSome, MatchOption}
use Rattle.std.specs.List.{list_all}
use Rattle.std.specs.Option.{option_map}
use Rattle.point_set.specs.Least.{IsLeast}
use Rattle.privilege.specs.Allowed.{contains}
use Rattle.vocabulary.specs.Prelude.{Place, is_in, comes_first}
use Rattle.licences.specs.Claims.{Claimed, allows}

-- The place of a claim's tree at a point and a field.
abbrev pub at : Claimed → ℕ → ℕ → Place
at c field point = record { tree = c.tree; point = point; field = field }

-- Whether one of some claims allows what another asks for, at a field and a point of it.
abbrev pub allows_at : List Claimed → Claimed → ℕ → ℕ → Bool
allows_at cs c field point = allows cs (at c field point) c.access

-- Whether a claim may allow what another asks for at a field, wherever it has the point.
abbrev pub serves : Claimed → Claimed → ℕ → Bool
serves one c field = (one.tree == c.tree) && (contains one.access c.access && is_in one.fields field)

-- Whether a claim to the same space serves all fields of another.
abbrev pub serves_all : Claimed → Claimed → Bool
serves_all one c = (one.space == c.space) && list_all (serves one c) c.fields

-- The test passes from the first number up to where it reaches; if it reaches nothing, it fails at the first
-- number; and without an end it passes at each `u64`.
abbrev pub Reaches : (ℕ → Bool) → ℕ → Option ℕ → Type 0
Reaches test from (Some end) = (from ≤ end) × ((x : ℕ) → from ≤ x → x < end → test x ≡ true)
    × (end ≡ from → test from ≡ false)
Reaches test from None = (x : ℕ) → from ≤ x → x < 2 ^ 64 → test x ≡ true

-- A point of a claim at which none of these allows what it asks for, at a field.
abbrev pub IsRefusedAt : List Claimed → Claimed → ℕ → ℕ → Type 0
IsRefusedAt cs c field point = Contains c.points point × (allows_at cs c field point ≡ false)

-- A claim is not refused below this point, and without a point it is refused nowhere.
abbrev pub IsDoubt : List Claimed → Claimed → ℕ → Option ℕ → Type 0
IsDoubt cs c field (Some from) = (x : ℕ) → IsRefusedAt cs c field x → from ≤ x
IsDoubt cs c field None = (x : ℕ) → ¬ IsRefusedAt cs c field x

-- The least place at a field at which a claim is refused.
pub record IsLeastAt (cs : List Claimed) (c : Claimed) (field : ℕ) (o : Option Place) : Type 0 where
  pub least : IsLeast (IsRefusedAt cs c field) (option_map (λ (p : Place). p.point) o)
  pub here : IfSome o (λ p. p ≡ at c field p.point)

-- Whether a place comes before another.
abbrev pub is_before : Place → Place → Bool
is_before p q = comes_first (p.tree, p.point, p.field) (q.tree, q.point, q.field)

-- The least place at some fields at which a claim is refused.
pub record IsLeastAmong (cs : List Claimed) (c : Claimed) (fields : List ℕ) (o : Option Place) : Type 0 where
  pub some : IfSome o (λ p. (p ≡ at c p.field p.point) × Contains fields p.field
      × IsRefusedAt cs c p.field p.point)
  pub least : (field point : ℕ) → Contains fields field → IsRefusedAt cs c field point
      → MatchOption o ⊥ (λ p. is_before (at c field point) p ≡ false)
