-- What each operation of a stencil log waits on.
use Rattle.std.specs.Prelude.{ℕ, ◌+◌, ◌-◌, ◌==◌, Bool, nat_lt, List, [], ◌∷◌, ◌++◌, if◌then◌else◌}
use Rattle.log_gen.specs.Numbers.{stencil_event, update_event, right_event, left_event}

-- An event, where there is one.
abbrev pub listed : Bool → ℕ → List ℕ
listed there event = if there then event ∷ [] else []

-- The copies of a step into a piece, from its left and its right neighbour, and those out of it. The first
-- piece has
-- no left neighbour, and the last one no right neighbour.
abbrev pub copy_from_left : ℕ → ℕ → ℕ → List ℕ
copy_from_left n s i = listed (nat_lt 0 i) (right_event n s (i - 1))

abbrev pub copy_from_right : ℕ → ℕ → ℕ → List ℕ
copy_from_right n s i = listed (nat_lt i (n - 1)) (left_event n s i)

abbrev pub copy_to_left : ℕ → ℕ → ℕ → List ℕ
copy_to_left n s i = listed (nat_lt 0 i) (left_event n s (i - 1))

abbrev pub copy_to_right : ℕ → ℕ → ℕ → List ℕ
copy_to_right n s i = listed (nat_lt i (n - 1)) (right_event n s i)

-- A stencil task waits on the put that fills its piece, and later on the update of the step before, and on
-- the copies
-- into its piece.
abbrev pub stencil_waits : ℕ → ℕ → ℕ → List ℕ
stencil_waits n s i =
    if s == 0 then (i + 1) ∷ []
    else (update_event n (s - 1) i ∷ copy_from_left n (s - 1) i ++ copy_from_right n (s - 1) i)

-- An update task waits on the stencil task of its piece, and on the copies of the step before out of its
-- piece.
abbrev pub update_waits : ℕ → ℕ → ℕ → List ℕ
update_waits n s i =
    if s == 0 then stencil_event n s i ∷ []
    else (stencil_event n s i ∷ copy_to_left n (s - 1) i ++ copy_to_right n (s - 1) i)

-- A copy waits on the update of the piece that it reads, and on the stencil task of the piece into which it
-- writes.
abbrev pub right_waits : ℕ → ℕ → ℕ → List ℕ
right_waits n s j = update_event n s j ∷ stencil_event n s (j + 1) ∷ []

abbrev pub left_waits : ℕ → ℕ → ℕ → List ℕ
left_waits n s j = update_event n s (j + 1) ∷ stencil_event n s j ∷ []
