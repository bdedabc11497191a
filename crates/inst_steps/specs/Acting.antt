-- Moves of a node, and the requirements by which a run makes them.
use Rattle.std.specs.Prelude.{◌≡◌, ℕ, ◌⊎◌, List, map, MatchOption, Some, option_map, slice_get}
use Rattle.privilege.specs.declared.kinds.Priv.TheVariants.{Ro, Rw, Wd, Red}
use Rattle.vocabulary.specs.Prelude.{Cell, Move, Req, Tables, id_of}
use Rattle.semantics.specs.declared.moves.Move.TheVariants as moves
use Rattle.inst_steps.specs.declared.act.Action.{Action}
use Rattle.inst_steps.specs.Viewing.{HasPrivilege, viewed_cell}

-- The moves of some actions.
abbrev pub steps_in : List Action → List Move
steps_in actions = map (λ (a : Action). a.step) actions

-- The requirement at a position is mapped to a cell, at the cell's point and field.
abbrev pub IsMappedTo : Tables → ℕ → Cell → Type 0
IsMappedTo t req c = viewed_cell t req c.point c.field ≡ c

-- The requirement at a position allows a move: its privilege does, and it is mapped to the cell.
abbrev pub IsAllowed : Tables → Move → ℕ → Type 0
IsAllowed t (moves.Read task number cell) req =
    (HasPrivilege t req Ro ⊎ HasPrivilege t req Rw) × IsMappedTo t req cell
IsAllowed t (moves.Write task cell) req =
    (HasPrivilege t req Rw ⊎ HasPrivilege t req Wd) × IsMappedTo t req cell
IsAllowed t (moves.Reduce task number op cell) req = HasPrivilege t req (Red op) × IsMappedTo t req cell
IsAllowed t _ req = ⊥

-- A move is of an operation that is no run.
abbrev pub IsOfNoRun : Move → Type 0
IsOfNoRun (moves.Read task number cell) = ⊥
IsOfNoRun (moves.Write task cell) = ⊥
IsOfNoRun (moves.Reduce task number op cell) = ⊥
IsOfNoRun _ = Unit {0}

-- The requirement that an action names allows its move. Only an action of no run names none.
abbrev pub IsBy : Tables → Action → Type 0
IsBy t a = MatchOption a.req (IsOfNoRun a.step) (IsAllowed t a.step)

-- The requirement at a position is one of the task with this id.
abbrev pub IsOfTask : Tables → ℕ → ℕ → Type 0
IsOfTask t req task = option_map (λ (r : Req). id_of t r.item) (slice_get t.reqs req) ≡ Some task

-- It is the one with this number.
abbrev pub HasNumber : Tables → ℕ → ℕ → Type 0
HasNumber t req number = option_map (λ (r : Req). r.number) (slice_get t.reqs req) ≡ Some number

-- The requirement at a position is the one that a move names: one of its task, with its number where it has
-- one.
abbrev pub IsNamedBy : Tables → Move → ℕ → Type 0
IsNamedBy t (moves.Read task number cell) req = IsOfTask t req task × HasNumber t req number
IsNamedBy t (moves.Write task cell) req = IsOfTask t req task
IsNamedBy t (moves.Reduce task number op cell) req = IsOfTask t req task × HasNumber t req number
IsNamedBy t _ req = ⊥

-- The requirement that an action names is the one that its move names.
abbrev pub IsOwn : Tables → Action → Type 0
IsOwn t a = MatchOption a.req (IsOfNoRun a.step) (IsNamedBy t a.step)
