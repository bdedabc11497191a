-- Spaces above and below one another.
use Rattle.std.specs.Prelude.{◌≡◌, ℕ, suc, zero, ◌≤◌, Option, Some, IsSome, option_and_then}
use Rattle.semantics.specs.declared.limits.TheConstants.{DEEPEST}
use Rattle.log_tables.specs.Regions.{Regions, space_of, parent_of}

-- The space that lies so many steps above this one.
abbrev pub ancestor_of : Regions → ℕ → ℕ → Option ℕ
ancestor_of d zero space = Some space
ancestor_of d (suc n) space = option_and_then (parent_of d) (ancestor_of d n space)

-- No space lies more than `DEEPEST` steps above this one.
abbrev pub IsShallow : Regions → ℕ → Type 0
IsShallow d space = (root n : ℕ) → ancestor_of d n space ≡ Some root → n ≤ DEEPEST

-- The space lies below the root.
abbrev pub IsBelow : Regions → ℕ → ℕ → Type 0
IsBelow d space root = (n : ℕ) × (ancestor_of d (suc n) space ≡ Some root)

-- Both are declared, and the space is the root or lies below it.
abbrev pub IsUnder : Regions → ℕ → ℕ → Type 0
IsUnder d space root = IsSome (space_of d space) × IsSome (space_of d root)
    × ((n : ℕ) × (ancestor_of d n space ≡ Some root))
