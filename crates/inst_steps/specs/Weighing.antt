-- What the values of a store weigh.
use Rattle.std.specs.Prelude.{ℕ, ◌+◌, if◌then◌else◌}
use Rattle.vocabulary.specs.Prelude.{weight_of, Cell, Move, same_cell}
use Rattle.semantics.specs.declared.moves.Move.TheVariants as moves
use Rattle.inst_steps.specs.Stores.{Contents, value_in}

abbrev pub weight_at : Contents → Cell → ℕ
weight_at m c = weight_of (value_in m c)

-- The most that a cell weighs after a move.
abbrev pub weight_after : Move → Contents → Cell → ℕ
weight_after (moves.Read task req cell) m c = weight_at m c
weight_after (moves.Write task cell) m c = if same_cell c cell then 0 else weight_at m c
weight_after (moves.Reduce task req op cell) m c =
    if same_cell c cell then weight_at m cell + 1 else weight_at m c
weight_after (moves.Copy from to) m c = if same_cell c to then weight_at m from else weight_at m c
weight_after (moves.Put cell n) m c = if same_cell c cell then 0 else weight_at m c
weight_after (moves.Reset cell) m c = if same_cell c cell then 0 else weight_at m c
weight_after (moves.Fold op from to) m c =
    if same_cell c to then weight_at m to + weight_at m from else weight_at m c
