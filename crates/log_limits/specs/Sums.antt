-- Sums as far as they fit a `u128`.
use Rattle.std.specs.Prelude.{ℕ, ◌-◌, ◌^◌, min}

abbrev pub cut : ℕ → ℕ
cut n = min n (2 ^ 128 - 1)
