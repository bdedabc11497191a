-- Execution over long values: what the cells hold, and beside it all reads so far.
use Rattle.std.specs.Prelude.{◌≡◌, ℕ, Bool, ◌&&◌, ◌==◌, List, [], ◌∷◌, ◌++◌, filter, flat_map, Contains, if◌then◌else◌}
use Rattle.std.specs.Option.{option_map_or}
use Rattle.vocabulary.specs.Prelude.{Value, Place, Cell, Move, Req, Tables, place_of, Step, is_home_cell, same_cell, IsInterleaving, req_at}
use Rattle.semantics.specs.declared.moves.Move.TheVariants.{Read, Write, Reduce, Copy, Put, Reset, Fold}
use Rattle.long_values.specs.LongValues.{Long, raw, init, ident, const, out, Readings, add_long, fold_long, short}
use Rattle.long_values.specs.LongSequential.{LongRead, readings, places_read, wanted_long}

-- What each cell holds, and the reads so far, the first one first.
pub record LongState : Type 0 where
  pub cells : Cell → Long
  pub reads : List LongRead

abbrev pub start_long : Tables → LongState
start_long t = record {
  cells = λ c. if is_home_cell t c then init else raw;
  reads = [];
}

-- The place at which a task reads for a requirement: a point and a field of the requirement's tree.
abbrev pub read_place : Tables → ℕ → ℕ → Cell → Place
read_place t task number c = record {
  tree =
      option_map_or (λ (r : Req). r.tree) (req_at t (place_of t.items task) number) 0;
  point = c.point;
  field =
      c.field;
}

-- Whether a read is one of a task for this requirement at this place.
abbrev pub is_read_of : ℕ → ℕ × Place → LongRead → Bool
is_read_of task p r = (r.task == task)
    && ((r.req == p.0) && ((r.place.tree == p.1.tree)
    && ((r.place.point == p.1.point) && (r.place.field == p.1.field))))

-- The list that a task carries: its own among some reads, in the order of its requirements, their points and
-- fields.
abbrev pub carried : Tables → ℕ → List LongRead → Readings
carried t task reads =
    readings (flat_map (λ p. filter (is_read_of task p) reads) (places_read t (place_of t.items task)))

-- The state with this long value at a cell, and with one more read.
abbrev pub holding : LongState → Cell → Long → LongState
holding s cell v = record s { cells = λ c. if same_cell c cell then v else s.cells c }

abbrev pub having_read : LongState → LongRead → LongState
having_read s r = record s { reads = s.reads ++ r ∷ [] }

-- The state after a move.
abbrev pub effect_long : Tables → Move → LongState → LongState
effect_long t (Read task req cell) s =
    having_read s (record {
      task = task;
      req = req;
      place = read_place t task req cell;
      value =
          s.cells cell;
    })
effect_long t (Write task cell) s = holding s cell (out task (carried t task s.reads))
effect_long t (Reduce task req op cell) s =
    holding s cell (add_long op (record { task = task; req = req }) (carried t task s.reads) (s.cells cell))
effect_long t (Copy from to) s = holding s to (s.cells from)
effect_long t (Put cell n) s = holding s cell (const n)
effect_long t (Reset cell) s = holding s cell ident
effect_long t (Fold op from to) s = holding s to (fold_long (s.cells to) op (s.cells from))

-- The state after some steps, one after the other.
abbrev pub executed_long : Tables → List Step → LongState → LongState
executed_long t [] s = s
executed_long t (x ∷ xs) s = executed_long t xs (effect_long t x.move s)

-- A node takes this read.
abbrev pub reads_at : ℕ → ℕ → ℕ → Cell → Step
reads_at node task req cell = record { node = node; move = Read task req cell }

-- A listed read is the read of a task's requirement at a cell, and what it saw is, short, this value.
pub record IsShort (t : Tables) (r : LongRead) (task req : ℕ) (cell : Cell) (v : Value) : Type 0 where
  pub task_is : r.task ≡ task
  pub req_is : r.req ≡ req
  pub place_is : r.place ≡ read_place t task req cell
  pub value_is : short r.value ≡ v

-- In every interleaving each read sees what it should, with all that was read for it.
abbrev pub IsRightLong : Tables → Type 0
IsRightLong t = (xs : List Step) → IsInterleaving t xs → (r : LongRead)
    → Contains (executed_long t xs (start_long t)).reads r
    → r.value ≡ wanted_long t (place_of t.items r.task) r.place
