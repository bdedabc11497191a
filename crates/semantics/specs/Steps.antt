-- The steps of the recorded run: which node does what to which cell.
use Rattle.std.specs.Prelude.{ℕ, ◌==◌, ◌&&◌, List, [], ◌∷◌, ◌++◌, map, flat_map, find, length, Option, option_map, unwrap_or, slice_get, if◌then◌else◌}
use Rattle.std.specs.List.{range_with_len}
use Rattle.std.specs.Option.{option_map_or}
use Rattle.spy_words.specs.declared.access.InstKind.{InstKind}
use Rattle.spy_words.specs.declared.access.InstKind.TheVariants as layouts
use Rattle.privilege.specs.declared.kinds.Priv.{Priv}
use Rattle.privilege.specs.declared.kinds.Priv.TheVariants.{Red}
use Rattle.privilege.specs.Allowed.{may_read, may_write}
use Rattle.semantics.specs.declared.places.Cell.{Cell}
use Rattle.semantics.specs.declared.moves.Move.{Move}
use Rattle.semantics.specs.declared.moves.Move.TheVariants as moves
use Rattle.semantics.specs.declared.tables.Item.{Item}
use Rattle.semantics.specs.declared.tables.Req.{Req}
use Rattle.semantics.specs.declared.tables.Inst.{Inst}
use Rattle.semantics.specs.declared.tables.LogNode.{LogNode}
use Rattle.semantics.specs.declared.tables.Op.{Op}
use Rattle.semantics.specs.declared.tables.Op.TheVariants as operations
use Rattle.semantics.specs.Tables.{Tables, Map}
use Rattle.semantics.specs.DataOps.{DataAct, Copies, Puts, Resets, Folds, DataOp, data_of}
use Rattle.semantics.specs.Points.{is_in, points_in}
use Rattle.semantics.specs.Kinds.{reqs_of, grid, req_grid}

-- The id of the item at a position.
abbrev pub id_of : Tables → ℕ → ℕ
id_of t item = option_map_or (λ (i : Item). i.id) (slice_get t.items item) 0

-- The instance with this id.
abbrev pub inst_at : Tables → ℕ → Option Inst
inst_at t id = find (λ (i : Inst). i.id == id) t.insts

-- The operator of a reduction instance.
abbrev pub operator_held : InstKind → ℕ
operator_held (layouts.Red op) = op
operator_held _ = 0

abbrev pub operator_of : Tables → ℕ → ℕ
operator_of t inst = option_map_or (λ (i : Inst). operator_held i.kind) (inst_at t inst) 0

-- The instance to which a field of a requirement is mapped.
abbrev pub mapped : Tables → Req → ℕ → Option ℕ
mapped t r field = option_map (λ (m : Map). m.inst)
    (find (λ (m : Map). (m.item == r.item) && ((m.number == r.number) && is_in m.fields field)) t.maps)

-- The cell of an instance at a point and a field.
abbrev pub cell_in : ℕ → ℕ × ℕ → Cell
cell_in inst p = record { inst = inst; point = p.0; field = p.1 }

-- The cell to which a point and a field of a requirement are mapped.
abbrev pub mapped_cell : Tables → Req → ℕ × ℕ → Cell
mapped_cell t r p = cell_in (unwrap_or (mapped t r p.1) 0) p

-- What a task does at a cell for a requirement: its reads, and its changes.
abbrev pub reads_by : ℕ → ℕ → Priv → Cell → List Move
reads_by task number p c = if may_read p then moves.Read task number c ∷ [] else []

abbrev pub changes_by : ℕ → ℕ → Priv → Cell → List Move
changes_by task number (Red op) c = moves.Reduce task number op c ∷ []
changes_by task number p c = if may_write p then moves.Write task c ∷ [] else []

-- What a task does at each cell of some requirements, of what it does at one.
abbrev pub at_cells : Tables → (Req → Cell → List Move) → List Req → List Move
at_cells t does rs = flat_map (λ r. flat_map (λ p. does r (mapped_cell t r p)) (req_grid t r)) rs

-- The moves of a task's run: all its reads, and then all its changes.
abbrev pub run_moves : Tables → ℕ → List Req → List Move
run_moves t task rs = at_cells t (λ r c. reads_by task r.number r.access c) rs
    ++ at_cells t (λ r c. changes_by task r.number r.access c) rs

-- What an operation on data does at a point and a field.
abbrev pub move_of : Tables → DataAct → ℕ × ℕ → Move
move_of t (Copies src dst) p = moves.Copy (cell_in src p) (cell_in dst p)
move_of t (Puts inst n) p = moves.Put (cell_in inst p) n
move_of t (Resets inst) p = moves.Reset (cell_in inst p)
move_of t (Folds src dst) p = moves.Fold (operator_of t src) (cell_in src p) (cell_in dst p)

-- The moves of an operation on data, if it is one.
abbrev pub data_moves : Tables → Option DataOp → List Move
data_moves t o = option_map_or (λ (d : DataOp). map (move_of t d.act)
    (grid (points_in t d.space) d.fields)) o []

-- What an operation does, move by move.
abbrev pub moves_of : Tables → Op → List Move
moves_of t (operations.Run item) = run_moves t (id_of t item) (reqs_of t item)
moves_of t op = data_moves t (data_of op)

-- A node, by its position, and one thing that it does.
pub record Step : Type 0 where
  pub node : ℕ
  pub move : Move

-- The steps of some nodes, node by node. Those of one node stand in one of the orders in which it may have
-- taken them.
abbrev pub steps_by : Tables → List ℕ → List Step
steps_by t ks = flat_map (λ k. map (λ m. record { node = k; move = m })
    (option_map_or (λ (n : LogNode). moves_of t n.op) (slice_get t.nodes k) [])) ks

-- All steps of the log.
abbrev pub steps : Tables → List Step
steps t = steps_by t (range_with_len 0 (length t.nodes))
