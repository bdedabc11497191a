-- What a node would do if each of its spaces that has points had point 0 alone.
use Rattle.std.specs.Prelude.{ℕ, List, [], ◌∷◌, map, flat_map, Option, slice_get}
use Rattle.std.specs.Option.{option_map_or}
use Rattle.vocabulary.specs.Prelude.{Move, LogNode, Op, Tables, points_in}
use Rattle.inst_steps.specs.Sweeps.{Pass, move_at, passes_of}

-- What is done at the fields of a sweep over these points.
abbrev pub moves_in_fields : Tables → Pass → List ℕ → List Move
moves_in_fields t p [] = []
moves_in_fields t p (x ∷ xs) = map (λ f. move_at t p.act (0, f)) p.fields

abbrev pub field_moves_of : Tables → Option Pass → List Move
field_moves_of t p = option_map_or (λ (p : Pass). moves_in_fields t p (points_in t p.space)) p []

abbrev pub field_moves : Tables → Op → List Move
field_moves t op = flat_map (field_moves_of t) (passes_of t op)

abbrev pub field_moves_at : Tables → ℕ → List Move
field_moves_at t node = option_map_or (λ (n : LogNode). field_moves t n.op) (slice_get t.nodes node) []
