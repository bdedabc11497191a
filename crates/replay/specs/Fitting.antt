-- Steps that a replay may take.
use Rattle.std.specs.Prelude.{◌≡◌, ℕ, ◌<◌, true, false, length, slice_get}
use Rattle.std.specs.Option.{option_map_or}
use Rattle.vocabulary.specs.Prelude.{Move, LogNode, Op, Tables, place_of, Step}
use Rattle.semantics.specs.declared.moves.Move.TheVariants as moves
use Rattle.semantics.specs.declared.tables.Op.TheVariants as operations
use Rattle.semantics.specs.Rules.{reduces_in}
use Rattle.inst_steps.specs.Celled.{AreOfInsts}
use Rattle.inst_steps.specs.Places.{StaysAtPlace}
use Rattle.replay.specs.declared.moving.Reading.{Reading}

-- The item that an operation runs.
abbrev pub item_run : Op → ℕ
item_run (operations.Run item) = item
item_run _ = 0

-- The item that a node runs.
abbrev pub item_at : Tables → ℕ → ℕ
item_at t node = option_map_or (λ (n : LogNode). item_run n.op) (slice_get t.nodes node) 0

-- The move that reads it.
abbrev pub read_move : Reading → Move
read_move r = moves.Read r.task r.number r.cell

-- A read is of this item.
abbrev pub IsOfItem : Tables → ℕ → Move → Type 0
IsOfItem t item (moves.Read task req cell) = (place_of t.items task ≡ item) × (item < length t.items)
IsOfItem t item _ = Unit {0}

-- Nothing is copied or folded into a reduction instance, and only from one of these is folded.
abbrev pub KeepsKinds : Tables → Move → Type 0
KeepsKinds t (moves.Copy from to) = reduces_in t to.inst ≡ false
KeepsKinds t (moves.Fold op from to) = (reduces_in t from.inst ≡ true) × (reduces_in t to.inst ≡ false)
KeepsKinds t _ = Unit {0}

-- A step is of instances of the right kinds, from one to another at one point and field, and a read is of the
-- item that its node runs.
pub record Fits (t : Tables) (x : Step) : Type 0 where
  pub cells : AreOfInsts t x.move
  pub kinds : KeepsKinds t x.move
  pub stays : StaysAtPlace x.move
  pub item : IsOfItem t (item_at t x.node) x.move
