-- What instances hold, and what a step does to them.
use Rattle.std.specs.Prelude.{◌≡◌, ◌==◌, Bool, true, false, ◌&&◌, List, [], ◌∷◌, Option, Some, None, ◌⊎◌, if◌then◌else◌}
use Rattle.std.specs.Option.{option_map_or}
use Rattle.spy_words.specs.declared.access.InstKind.{InstKind}
use Rattle.spy_words.specs.declared.access.InstKind.TheVariants.{Home}
use Rattle.value_terms.specs.declared.terms.Base.TheVariants.{Raw, Init, Ident, Const, Out}
use Rattle.value_terms.specs.Values.{Value, plain, add_one, fold_in}
use Rattle.semantics.specs.declared.places.Cell.{Cell}
use Rattle.semantics.specs.declared.moves.Move.{Move}
use Rattle.semantics.specs.declared.moves.Move.TheVariants.{Read, Write, Reduce, Copy, Put, Reset, Fold}
use Rattle.semantics.specs.declared.tables.Inst.{Inst}
use Rattle.semantics.specs.Tables.{Tables}
use Rattle.semantics.specs.Points.{is_in, points_in}
use Rattle.semantics.specs.Steps.{Step, inst_at}

-- What each cell holds. (What stands at cells that no instance has is of no account.)
abbrev pub State : Type 0
State = Cell → Value

abbrev pub is_home : InstKind → Bool
is_home Home = true
is_home _ = false

-- Whether a cell is one of a home instance.
abbrev pub is_home_cell : Tables → Cell → Bool
is_home_cell t c = option_map_or (λ (i : Inst). is_home i.kind
    && (is_in (points_in t i.space) c.point && is_in i.fields c.field)) (inst_at t c.inst) false

-- At the start the cells of a home instance hold what their places hold then, and all others nothing that is
-- known.
abbrev pub start : Tables → State
start t c = if is_home_cell t c then plain Init else plain Raw

unfoldable pub same_cell : Cell → Cell → Bool
same_cell a b = a.inst == b.inst && a.point == b.point && a.field == b.field

-- The state with this value at a cell.
abbrev pub stored : State → Cell → Value → State
stored s cell v c = if same_cell c cell then v else s c

-- The state after a move.
abbrev pub effect : Move → State → State
effect (Read task req cell) s = s
effect (Write task cell) s = stored s cell (plain (Out task))
effect (Reduce task req op cell) s = stored s cell (add_one op (record { task = task; req = req }) (s cell))
effect (Copy from to) s = stored s to (s from)
effect (Put cell n) s = stored s cell (plain (Const n))
effect (Reset cell) s = stored s cell (plain Ident)
effect (Fold op from to) s = stored s to (fold_in (s to) op (s from))

-- The value that a move reads, where it reads one.
abbrev pub sees : Move → State → Option Value
sees (Read task req cell) s = Some (s cell)
sees (Copy from to) s = Some (s from)
sees (Fold op from to) s = Some (s from)
sees _ s = None

-- The state after some steps, one after the other.
abbrev pub executed : List Step → State → State
executed [] s = s
executed (x ∷ xs) s = executed xs (effect x.move s)

-- Among these steps, taken from this state, the step reads the value.
abbrev pub ReadsIn : List Step → State → Step → Value → Type 0
ReadsIn [] s step value = ⊥
ReadsIn (x ∷ xs) s step value = ((step ≡ x) × (sees x.move s ≡ Some value))
    ⊎ ReadsIn xs (effect x.move s) step value
