-- The lines of a text.
use Rattle.std.specs.Prelude.{◌≢◌, ℕ, ◌-◌, List, [], ◌∷◌, ◌++◌, length, ◌==◌, if◌then◌else◌, Some, slice_get, All}

-- Each line with its line feed (10), joined.
abbrev pub with_ends : List (List ℕ) → List ℕ
with_ends [] = []
with_ends (line ∷ lines) = line ++ 10 ∷ with_ends lines

-- No byte of the line is a line feed.
abbrev pub IsLine : List ℕ → Type 0
IsLine line = All (λ b. b ≢ 10) line

-- There are bytes, and the last one is not a line feed.
abbrev pub IsUnended : List ℕ → Type 0
IsUnended bytes = (bytes ≢ []) × (slice_get bytes (length bytes - 1) ≢ Some 10)

-- One byte more at the front of the first line.
abbrev pub begun_by : ℕ → List (List ℕ) → List (List ℕ)
begun_by b [] = []
begun_by b (line ∷ lines) = (b ∷ line) ∷ lines

-- The lines that end by a line feed.
abbrev pub lines_of : List ℕ → List (List ℕ)
lines_of [] = []
lines_of (b ∷ bs) = if b == 10 then [] ∷ lines_of bs else begun_by b (lines_of bs)
