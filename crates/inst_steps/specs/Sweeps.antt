-- Operations as sweeps, each of which does one thing at each point and field of a space.
use Rattle.std.specs.Prelude.{ℕ, List, [], ◌∷◌, ◌++◌, ◌==◌, ◌&&◌, map, Option, Some, None, option_map, unwrap_or, position, slice_get, if◌then◌else◌}
use Rattle.std.specs.Option.{option_map_or}
use Rattle.vocabulary.specs.Prelude.{Priv, may_read, may_write, Cell, Move, Req, Op, Tables, points_in, reqs_of, grid, cell_in, id_of, operator_of}
use Rattle.privilege.specs.declared.kinds.Priv.TheVariants as privileges
use Rattle.log_tables.specs.Mapped.{inst_mapped}
use Rattle.semantics.specs.declared.moves.Move.TheVariants as moves
use Rattle.semantics.specs.declared.tables.Op.TheVariants as operations
use Rattle.inst_steps.specs.declared.act.Act.{Act}
use Rattle.inst_steps.specs.declared.act.Action.{Action}
use Rattle.inst_steps.specs.declared.act.Act.TheVariants as acts

-- The instance to which a field of a requirement is mapped, and 0 where none is.
abbrev pub mapped_inst : Tables → ℕ → ℕ → ℕ → ℕ
mapped_inst t item number field =
    unwrap_or (inst_mapped t.maps (record { item = item; number = number; field = field })) 0

-- The cell to which a point and a field of a requirement are mapped. The requirement is named by its item and
-- number.
abbrev pub cell_of : Tables → ℕ → ℕ → ℕ × ℕ → Cell
cell_of t item number p = cell_in (mapped_inst t item number p.1) p

-- The instance to which an act of a task is mapped in a field.
abbrev pub inst_for : Tables → Act → ℕ → ℕ
inst_for t (acts.Read task item number req) field = mapped_inst t item number field
inst_for t (acts.Write task item number req) field = mapped_inst t item number field
inst_for t (acts.Reduce task item number req op) field = mapped_inst t item number field
inst_for t _ field = 0

-- What an act does at a point and a field.
abbrev pub move_at : Tables → Act → ℕ × ℕ → Move
move_at t (acts.Read task item number req) p = moves.Read task number (cell_of t item number p)
move_at t (acts.Write task item number req) p = moves.Write task (cell_of t item number p)
move_at t (acts.Reduce task item number req op) p = moves.Reduce task number op (cell_of t item number p)
move_at t (acts.Copy src dst) p = moves.Copy (cell_in src p) (cell_in dst p)
move_at t (acts.Put inst n) p = moves.Put (cell_in inst p) n
move_at t (acts.Reset inst) p = moves.Reset (cell_in inst p)
move_at t (acts.Fold op src dst) p = moves.Fold op (cell_in src p) (cell_in dst p)

-- The position of the requirement by which a run acts.
abbrev pub req_in : Act → Option ℕ
req_in (acts.Read task item number req) = req
req_in (acts.Write task item number req) = req
req_in (acts.Reduce task item number req op) = req
req_in _ = None

abbrev pub action_at : Tables → Act → ℕ × ℕ → Action
action_at t act p = record { req = req_in act; step = move_at t act p }

-- What is done at each point of a space and each of some fields.
pub record Pass : Type 0 where
  pub act : Act
  pub space : ℕ
  pub fields : List ℕ

abbrev pub pass : Act → ℕ → List ℕ → Pass
pass act space fields = record { act = act; space = space; fields = fields }

abbrev pub pass_moves : Tables → Pass → List Move
pass_moves t p = map (move_at t p.act) (grid (points_in t p.space) p.fields)

abbrev pub moves_of_pass : Tables → Option Pass → List Move
moves_of_pass t p = option_map_or (pass_moves t) p []

-- The same, each move with its requirement.
abbrev pub pass_actions : Tables → Pass → List Action
pass_actions t p = map (action_at t p.act) (grid (points_in t p.space) p.fields)

abbrev pub actions_of_pass : Tables → Option Pass → List Action
actions_of_pass t p = option_map_or (pass_actions t) p []

-- The position of the first requirement with the item and the number of this one, which is its own.
abbrev pub own_place : Tables → Req → Option ℕ
own_place t r = position (λ (q : Req). (q.item == r.item) && (q.number == r.number)) t.reqs

-- How a task reads for a requirement, and how it changes, where its privilege allows that.
abbrev pub reading : Tables → ℕ → Req → Option Act
reading t task r = if may_read r.access then Some (acts.Read task r.item r.number (own_place t r)) else None

abbrev pub changing_by : Tables → ℕ → Req → Priv → Option Act
changing_by t task r (privileges.Red op) = Some (acts.Reduce task r.item r.number (own_place t r) op)
changing_by t task r p = if may_write p then Some (acts.Write task r.item r.number (own_place t r)) else None

abbrev pub changing : Tables → ℕ → Req → Option Act
changing t task r = changing_by t task r r.access

abbrev pub pass_for : Req → Option Act → Option Pass
pass_for r act = option_map (λ (a : Act). pass a r.space r.fields) act

-- The sweeps of an operation. A run reads for each requirement, and then changes for each.
abbrev pub passes_of : Tables → Op → List (Option Pass)
passes_of t (operations.Run item) = map (λ r. pass_for r (reading t (id_of t item) r)) (reqs_of t item)
    ++ map (λ r. pass_for r (changing t (id_of t item) r)) (reqs_of t item)
passes_of t (operations.Copy src dst space fields) = Some (pass (acts.Copy src dst) space fields) ∷ []
passes_of t (operations.Put inst space fields n) = Some (pass (acts.Put inst n) space fields) ∷ []
passes_of t (operations.Reset inst space fields) = Some (pass (acts.Reset inst) space fields) ∷ []
passes_of t (operations.Fold src dst space fields) =
    Some (pass (acts.Fold (operator_of t src) src dst) space fields) ∷ []
passes_of t operations.Merge = []

-- The sweep at a place, if there is one and it does something.
abbrev pub pass_at : List (Option Pass) → ℕ → Option Pass
pass_at ps k = unwrap_or (slice_get ps k) None
