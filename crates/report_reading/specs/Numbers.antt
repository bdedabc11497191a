-- What the words of a text say if they are numbers. Of other words it is some number.
use Rattle.std.specs.Prelude.{ℕ, ◌+◌, ◌-◌, ◌*◌, ◌^◌, List, [], min, fold, slice_index_or}

-- The number that digits say, or the greatest where it is greater.
unfoldable pub number_of : ℕ → List ℕ → ℕ
number_of greatest w = fold (λ value b. min (value * 10 + (b - 48)) greatest) 0 w

-- The word at a place, from 0. Past the last it is the empty word.
abbrev pub word_at : List (List ℕ) → ℕ → List ℕ
word_at ws k = slice_index_or ws k []

-- The number of 32 bits that the word at a place says.
abbrev pub small_at : List (List ℕ) → ℕ → ℕ
small_at ws k = number_of (2 ^ 32 - 1) (word_at ws k)

-- The number of 64 bits that the word at a place says.
abbrev pub large_at : List (List ℕ) → ℕ → ℕ
large_at ws k = number_of (2 ^ 64 - 1) (word_at ws k)
