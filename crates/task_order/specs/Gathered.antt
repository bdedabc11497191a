-- What the tasks of a log do at listed points.
use Rattle.std.specs.Prelude.{◌≡◌, ◌⊎◌, ℕ, true, List, map, flat_map, slice_index, Contains}
use Rattle.vocabulary.specs.Prelude.{Place, Cell, Req, Tables, is_in, covers}
use Rattle.semantics.specs.SerialOrder.{serial, serial_place}
use Rattle.semantics.specs.Shown.{is_task_at}
use Rattle.point_laws.specs.Alike.{AreFirsts}
use Rattle.cell_races.specs.declared.cell_accesses.CellAccess.{CellAccess}
use Rattle.cell_races.specs.CellAccesses.{cell_access}
use Rattle.order_laws.specs.TaskAccesses.{access_of}

-- The same at another point and field.
abbrev pub cell_access_at : CellAccess → ℕ → ℕ → CellAccess
cell_access_at one point field = cell_access one.place (record {
  inst = one.cell.inst;
  point = point;
  field =
      field;
}) one.access

-- The same at each of some points and fields.
abbrev pub cell_accesses_over : CellAccess → List ℕ → List ℕ → List CellAccess
cell_accesses_over one points fields = flat_map (λ p. map (cell_access_at one p) fields) points

-- It is done at one of these points and fields.
pub record IsOneAt (one : CellAccess) (points fields : List ℕ) (x : CellAccess) : Type 0 where
  pub point : ℕ
  pub field : ℕ
  pub in_points : Contains points point
  pub in_fields : Contains fields field
  pub is : x ≡ cell_access_at one point field

-- Just what has a property is added to a list.
pub record Adds {X : Type 0} (P : X → Type 0) (old new : List X) : Type 0 where
  pub kept : (x : X) → Contains old x → Contains new x
  pub sound : (x : X) → Contains new x → Contains old x ⊎ P x
  pub whole : (x : X) → P x → Contains new x

-- A place of a region tree, seen as a cell.
abbrev pub place_at : Cell → Place
place_at c = record { tree = c.inst; point = c.point; field = c.field }

-- It is what a task does by a requirement at a listed point, with the place of the task in serial order.
pub record IsDoneBy (t : Tables) (points : List ℕ) (r : Req) (x : CellAccess) : Type 0 where
  pub task : is_task_at t r.item ≡ true
  pub covered : covers t (place_at x.cell) r ≡ true
  pub listed : is_in points x.cell.point ≡ true
  pub place : x.place ≡ serial_place t r.item
  pub access : x.access ≡ access_of r.access

-- Just what tasks do by these requirements at listed points.
pub record AreDoneBy (t : Tables) (points : List ℕ) (reqs : List Req) (cell_accesses : List CellAccess) : Type 0 where
  pub sound : (x : CellAccess) → Contains cell_accesses x → (r : Req) × Contains reqs r × IsDoneBy t points r x
  pub whole : (r : Req) (x : CellAccess) → Contains reqs r → IsDoneBy t points r x → Contains cell_accesses x

-- It is all that tasks do at first points.
pub record AreFirstCellAccesses (t : Tables) (cell_accesses : List CellAccess) : Type 0 where
  pub firsts : List ℕ
  pub are_firsts : AreFirsts t firsts
  pub done : AreDoneBy t firsts t.reqs cell_accesses

-- The node that runs each item, in serial order.
abbrev pub in_order : List ℕ → Tables → List ℕ
in_order runs t = map (λ item. slice_index runs item) (serial t)
