-- The cells of spaces that are kept as bits.
use Rattle.std.specs.Prelude.{◌≡◌, nat_eq, ℕ, true, false, List, Option, Some, None, MatchOption, ⊤}
use Rattle.std.specs.HashMap.{get}
use Rattle.point_set.specs.declared.rect.Rect.{Rect}
use Rattle.grid.specs.Cuts.{grid_of}
use Rattle.cell_bits.specs.declared.cells.CellBits.{CellBits}
use Rattle.cell_bits.specs.Bits.{AreBitsOf}
use Rattle.vocabulary.specs.Prelude.{Record, Tables, points_in, with_record}
use Rattle.spy_grammar.specs.declared.record.Record.TheVariants as records
use Rattle.semantics.specs.Rules.{is_declared, space_id}
use Rattle.log_rules.specs.declared.cell_rows.CellRows.{CellRows}

-- The space that a record declares, if it declares one.
abbrev pub space_declared : Record → Option ℕ
space_declared (records.Ispace id set) = Some id
space_declared (records.Plane id quads) = Some id
space_declared _ = None

-- The bits that are kept of a space.
abbrev pub bits_of : CellRows → ℕ → Option CellBits
bits_of rows id = get nat_eq rows.rows id

-- They are those of the cells that the space has in the grid of the rectangles, which are given; and the
-- space is declared.
abbrev pub IsRow : Option (List Rect) → Tables → ℕ → CellBits → Type 0
IsRow all t id bits = (is_declared t (space_id id) ≡ true)
    × MatchOption all ⊥ (λ rects. AreBitsOf (grid_of rects) (points_in t id) bits)

-- All bits that are kept are so.
abbrev pub HasRows : Option (List Rect) → Tables → CellRows → Type 0
HasRows all t rows = (id : ℕ) → MatchOption (bits_of rows id) ⊤ (IsRow all t id)

-- Bits are those of the space that a record declares, if none with its id is declared before.
abbrev pub IsNewRow : Option (List Rect) → Tables → Record → ℕ → CellBits → Type 0
IsNewRow all t r id bits =
    (line : ℕ) → is_declared t (space_id id) ≡ false → IsRow all (with_record t line r) id bits
