-- The numbers of a stencil log of `n` pieces. Pieces and boundaries are counted from 0: piece `i` has the
-- points
-- from `10 i` to `10 i + 9`, and boundary `j` lies between the pieces `j` and `j + 1`. Steps are counted from
-- 0.
use Rattle.std.specs.Prelude.{ℕ, ◌+◌, ◌-◌, ◌*◌}

-- The ids of spaces: a piece, a piece with a point of each neighbour, and the last point before a boundary
-- and the
-- first one after it.
abbrev pub piece : ℕ → ℕ
piece i = 2 + i

abbrev pub halo : ℕ → ℕ → ℕ
halo n i = 2 + n + i

abbrev pub before_boundary : ℕ → ℕ → ℕ
before_boundary n j = 2 + 2 * n + 2 * j

abbrev pub after_boundary : ℕ → ℕ → ℕ
after_boundary n j = 3 + 2 * n + 2 * j

-- The id of the first task of a step, whose stencil tasks come before its update tasks.
abbrev pub first_task : ℕ → ℕ → ℕ
first_task n s = 2 + 2 * n * s

abbrev pub stencil_task : ℕ → ℕ → ℕ → ℕ
stencil_task n s i = first_task n s + i

abbrev pub update_task : ℕ → ℕ → ℕ → ℕ
update_task n s i = first_task n s + n + i

-- The last event before those of a step, which has n stencil tasks, n update tasks and 2 (n - 1) copies.
abbrev pub last_event : ℕ → ℕ → ℕ
last_event n s = n + s * (4 * n - 2)

-- The events of a step: its tasks at a piece, and its copies over a boundary to the right and to the left.
abbrev pub stencil_event : ℕ → ℕ → ℕ → ℕ
stencil_event n s i = last_event n s + i + 1

abbrev pub update_event : ℕ → ℕ → ℕ → ℕ
update_event n s i = last_event n s + n + i + 1

abbrev pub right_event : ℕ → ℕ → ℕ → ℕ
right_event n s j = last_event n s + 2 * n + 2 * j + 1

abbrev pub left_event : ℕ → ℕ → ℕ → ℕ
left_event n s j = last_event n s + 2 * n + 2 * j + 2
