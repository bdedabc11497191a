-- What tasks read, and what they should have read.
use Rattle.std.specs.Prelude.{◌≡◌, ◌≢◌, ℕ, ◌==◌, ◌&&◌, List, [], ◌∷◌, Contains, find, Option, Some, None, if◌then◌else◌}
use Rattle.std.specs.Option.{option_or, option_map_or}
use Rattle.value_terms.specs.Values.{Value, same_value}
use Rattle.semantics.specs.declared.moves.Move.{Move}
use Rattle.semantics.specs.declared.moves.Move.TheVariants.{Read}
use Rattle.semantics.specs.declared.tables.Req.{Req}
use Rattle.semantics.specs.Tables.{Tables, place_of}
use Rattle.semantics.specs.Events.{graph_of}
use Rattle.semantics.specs.Sequential.{wanted}
use Rattle.semantics.specs.ReplayOrder.{replay_order}
use Rattle.semantics.specs.Steps.{Step, steps, steps_by}
use Rattle.semantics.specs.Execution.{State, start, effect, ReadsIn}
use Rattle.semantics.specs.Interleavings.{IsInterleaving}

-- The requirement of an item with this number.
abbrev pub req_at : Tables → ℕ → ℕ → Option Req
req_at t item number = find (λ (r : Req). (r.item == item) && (r.number == number)) t.reqs

-- What a read of an item for a requirement should see at a point and a field: the value of sequential
-- execution just before the item, in the tree of the requirement.
abbrev pub wanted_by : Tables → ℕ → ℕ → ℕ → ℕ → Value
wanted_by t item number point field =
    wanted t item (record {
      tree = option_map_or (λ (r : Req). r.tree) (req_at t item number) 0;
      point =
          point;
      field = field;
    })

-- A read: its task and requirement, the point and the field, and what it saw.
pub record Seen : Type 0 where
  pub task : ℕ
  pub number : ℕ
  pub point : ℕ
  pub field : ℕ
  pub got : Value

-- What a read should have seen.
abbrev pub want_of : Tables → Seen → Value
want_of t r = wanted_by t (place_of t.items r.task) r.number r.point r.field

-- A node takes this read from an instance.
abbrev pub read_step : ℕ → ℕ → Seen → Step
read_step node inst r = record {
  node = node;
  move =
      Read r.task r.number (record { inst = inst; point = r.point; field = r.field });
}

-- In every interleaving each read sees what it should.
abbrev pub IsRight : Tables → Type 0
IsRight t = (xs : List Step) → IsInterleaving t xs → (node inst : ℕ) (r : Seen)
    → ReadsIn xs (start t) (read_step node inst r) r.got → r.got ≡ want_of t r

-- A differing read: in every interleaving it sees this, and that is not what it should see.
pub record Differs (t : Tables) (r : Seen) : Type 0 where
  pub node : ℕ
  pub inst : ℕ
  pub is_step : Contains (steps t) (read_step node inst r)
  pub differ : r.got ≢ want_of t r
  pub sees : (xs : List Step) → IsInterleaving t xs → ReadsIn xs (start t) (read_step node inst r) r.got

-- This read, if it differs.
abbrev pub differing : Tables → Seen → Option Seen
differing t r = if same_value r.got (want_of t r) then None else Some r

-- The first differing read of some steps, taken one after the other from a state.
abbrev pub difference : Tables → Move → State → Option Seen
difference t (Read task number c) s =
    differing t (record { task = task; number = number; point = c.point; field = c.field; got = s c })
difference t _ s = None

abbrev pub first_difference : Tables → List Step → State → Option Seen
first_difference t [] s = None
first_difference t (x ∷ xs) s = option_or (difference t x.move s) (first_difference t xs (effect x.move s))

-- The steps, node by node in replay order.
abbrev pub replay_steps : Tables → List Step
replay_steps t = steps_by t (replay_order (graph_of t.nodes))

-- The differing read that is shown: the first one of the replay.
abbrev pub shown_difference : Tables → Option Seen
shown_difference t = first_difference t (replay_steps t) (start t)
