-- Lists of numbers that undo each other.
use Rattle.std.specs.Prelude.{◌≡◌, ℕ, List, length, Some, slice_get}

-- As many places as numbers: each number stands at its place, and at no other.
pub record AreInverse (numbers places : List ℕ) : Type 0 where
  pub each : length places ≡ length numbers
  pub there : (p n : ℕ) → slice_get places n ≡ Some p → slice_get numbers p ≡ Some n
  pub back : (p n : ℕ) → slice_get numbers p ≡ Some n → slice_get places n ≡ Some p
