-- First places of items.
use Rattle.std.specs.Prelude.{◌≡◌, ◌≢◌, ℕ, ◌&&◌, Bool, List, slice_get, Option, Some, nat_eq}
use Rattle.std.specs.Borrow.{Bor}
use Rattle.std.specs.Fn.{Shared, FnReturnsAt}
use Rattle.log_tables.specs.declared.entries.Step.{Step}

-- Each item stands at the place that a call gives for it.
abbrev pub AllFirst : {F T : Type 0} → Shared F (Bor T × Unit {0}) (Option ℕ) → F → List T → Type 0
AllFirst {F} {T} g f items = (i : ℕ) (x : T) → slice_get items i ≡ Some x → FnReturnsAt g f x (Some i)

-- Some item stands at another place than a call gives for it.
abbrev pub SomeLater : {F T : Type 0} → Shared F (Bor T × Unit {0}) (Option ℕ) → F → List T → Type 0
SomeLater {F} {T} g f items = (i : ℕ) × (x : T) × (o : Option ℕ) × (slice_get items i ≡ Some x)
    × FnReturnsAt g f x o × (o ≢ Some i)

-- Whether a map takes two steps for one.
abbrev pub same_step : Step → Step → Bool
same_step a b = nat_eq a.part b.part && nat_eq a.colour b.colour
