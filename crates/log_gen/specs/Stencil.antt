-- The stencil log of `n` pieces in a row, each of 10 points, over 10 steps. Field 1 holds what the stencil
-- reads, at
-- its piece and one point of each neighbour; field 2 what it gives, from which field 1 is updated.
use Rattle.std.specs.Prelude.{ℕ, zero, suc, ◌+◌, ◌-◌, ◌*◌, min, true, false, List, [], ◌∷◌, ◌++◌}
use Rattle.spy_words.specs.declared.access.PrivWord.TheVariants.{Ro, Rw, Wd}
use Rattle.spy_words.specs.declared.access.InstKind.TheVariants.{Plain}
use Rattle.spy_grammar.specs.declared.record.Record.{Record}
use Rattle.spy_grammar.specs.declared.record.Record.TheVariants.{Header, Ispace, Part, Sub, Fields, Tree, Task, Req, Fill, Inst, Map, Run, Copy, Put, End}
use Rattle.log_gen.specs.Numbers.{piece, halo, before_boundary, after_boundary, stencil_task, update_task, stencil_event, update_event, right_event, left_event}
use Rattle.log_gen.specs.Waits.{stencil_waits, update_waits, right_waits, left_waits}

-- The records for each number from 0 below the count, in turn.
abbrev pub for_each : ℕ → (ℕ → List Record) → List Record
for_each zero records = []
for_each (suc count) records = for_each count records ++ records count

-- A list of one.
abbrev pub one : {A : Type 0} → A → List A
one x = x ∷ []

-- All points, and the two partitions of them.
abbrev pub head : ℕ → List Record
head n =
    Header 1
    ∷ Ispace 1 (one (0, 10 * n - 1))
    ∷ Part 1 1 true
    ∷ Part 2 1 false
    ∷ []

-- The pieces, which are disjoint.
abbrev pub piece_space : ℕ → List Record
piece_space i =
    Ispace (piece i) (one (10 * i, 10 * i + 9))
    ∷ Sub 1 i (piece i)
    ∷ []

-- The pieces with a point of each neighbour. The first begins at 0 (so does `10 * 0 - 1`), and the last ends
-- with all.
abbrev pub halo_space : ℕ → ℕ → List Record
halo_space n i =
    Ispace (halo n i) (one (10 * i - 1, min (10 * n - 1) (10 * i + 10)))
    ∷ Sub 2 i (halo n i)
    ∷ []

-- The two points at a boundary, each alone.
abbrev pub boundary_spaces : ℕ → ℕ → List Record
boundary_spaces n j =
    Ispace (before_boundary n j) (one (10 * j + 9, 10 * j + 9))
    ∷ Ispace (after_boundary n j) (one (10 * j + 10, 10 * j + 10))
    ∷ []

-- Two fields, and the tree.
abbrev pub tree : List Record
tree =
    Fields 1 (1 ∷ 2 ∷ [])
    ∷ Tree 1 1 1
    ∷ []

-- An instance for each piece, with its neighbours' points.
abbrev pub instance : ℕ → ℕ → List Record
instance n i = one (Inst (i + 1) 1 (halo n i) (1 ∷ 2 ∷ []) Plain)

-- Field 1 is 0 at the start.
abbrev pub fill : List Record
fill = one (Fill 1 1 1 (one 1) 0)

abbrev pub put : ℕ → ℕ → List Record
put n i = one (Put (i + 1) (halo n i) (one 1) 0 (i + 1) [])

-- The stencil task of a step at a piece.
abbrev pub stencil_run : ℕ → ℕ → ℕ → List Record
stencil_run n s i =
    Task (stencil_task n s i)
    ∷ Req (stencil_task n s i) 1 (halo n i) (one 1) Ro false
    ∷ Req (stencil_task n s i) 1 (piece i) (one 2) Wd false
    ∷ Map (stencil_task n s i) 1 (one 1) (i + 1)
    ∷ Map (stencil_task n s i) 2 (one 2) (i + 1)
    ∷ Run (stencil_task n s i) (stencil_event n s i) (stencil_waits n s i)
    ∷ []

-- The update task of a step at a piece.
abbrev pub update_run : ℕ → ℕ → ℕ → List Record
update_run n s i =
    Task (update_task n s i)
    ∷ Req (update_task n s i) 1 (piece i) (one 2) Ro false
    ∷ Req (update_task n s i) 1 (piece i) (one 1) Rw false
    ∷ Map (update_task n s i) 1 (one 2) (i + 1)
    ∷ Map (update_task n s i) 2 (one 1) (i + 1)
    ∷ Run (update_task n s i) (update_event n s i) (update_waits n s i)
    ∷ []

-- The copies of a step over a boundary: to the right, and then to the left.
abbrev pub right_copy : ℕ → ℕ → ℕ → List Record
right_copy n s j = one (Copy (j + 1) (j + 2) (before_boundary n j) (one 1) (right_event n s j)
    (right_waits n s j))

abbrev pub left_copy : ℕ → ℕ → ℕ → List Record
left_copy n s j = one (Copy (j + 2) (j + 1) (after_boundary n j) (one 1) (left_event n s j)
    (left_waits n s j))

abbrev pub copies : ℕ → ℕ → ℕ → List Record
copies n s j = right_copy n s j ++ left_copy n s j

-- A step.
abbrev pub step : ℕ → ℕ → List Record
step n s = for_each n (stencil_run n s) ++ for_each n (update_run n s) ++ for_each (n - 1) (copies n s)

-- What stands before the steps: what is declared, and the operations that fill the instances.
abbrev pub spaces : ℕ → List Record
spaces n = head n ++ for_each n piece_space ++ for_each n (halo_space n)
    ++ for_each (n - 1) (boundary_spaces n)

abbrev pub instances : ℕ → List Record
instances n = tree ++ for_each n (instance n) ++ fill ++ for_each n (put n)

-- The log.
unfoldable pub stencil : ℕ → List Record
stencil n = spaces n ++ instances n ++ for_each 10 (step n) ++ one (End (148 * n - 16))
