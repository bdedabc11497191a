-- The steps of a replay at a field, as they are listed.
use Rattle.std.specs.Prelude.{ℕ, zero, suc, Bool, ◌==◌, List, [], ◌∷◌, ◌++◌, flat_map, slice_index, if◌then◌else◌}
use Rattle.vocabulary.specs.Prelude.{Move, Tables, Step}
use Rattle.point_laws.specs.Alike.{target}
use Rattle.inst_steps.specs.Stepping.{moves_at}
use Rattle.provenance.specs.declared.taking.Taken.{Taken}

abbrev pub step_of : Taken → Step
step_of x = record { node = x.node; move = x.step }

-- Whether a step is at this field.
abbrev pub at_field : ℕ → Step → Bool
at_field field x = (target x.move).field == field

-- A step of a node, if it is at this field.
abbrev pub kept_of : ℕ → ℕ → Move → List Taken
kept_of field node m = if (target m).field == field then record { node = node; step = m } ∷ [] else []

-- The steps of a node at this field.
abbrev pub taken_by : Tables → ℕ → ℕ → List Taken
taken_by t field node = flat_map (kept_of field node) (moves_at t node)

-- Those of the nodes before a place of an order.
abbrev pub taken_before : Tables → ℕ → List ℕ → ℕ → List Taken
taken_before t field order zero = []
taken_before t field order (suc place) =
    taken_before t field order place ++ taken_by t field (slice_index order place)
